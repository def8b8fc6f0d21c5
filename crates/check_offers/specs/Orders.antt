-- A tree of offers whose shape, offers and order are right: how the code finds one.
use Rattle.std.specs.Prelude.{◌≡◌, refl, Bool, true, false, Option, None, Some, IsSome, length, get_or}
use Rattle.std.proofs.Common.{sym, ◌∙◌, ap, subst, subst₂, arith}
use mathlib.Core.List.{List, ◌∷◌, Memᴰ}
use Prim.Native.Nat.{ℕ, zero, suc, ◌+◌, ◌-◌, ◌≤◌, ◌<◌}
use Rattle.std.proofs.Math.Numerals.{add-one}
use Rattle.std.proofs.Math.Dec.{T}
use Rattle.std.proofs.Math.ListN.{get_or-map}
use Rattle.lists.specs.Bools.{never}
use Rattle.envelopes.specs.Envelope.{Ordered, ordered_nil, ordered_cons}
use Rattle.envelopes.specs.EnvelopeLaws.{ordered_at}
use Rattle.trees.specs.Tree.{Tree, leaves, height}
use Rattle.table.specs.Fields.{most_levels, most_slots, offer_tree, rate_field}
use Rattle.table.specs.Words.{Words}
use Rattle.table.specs.Layout.{cap, cap_most}
use Rattle.table.specs.Items.{Item, slots_most}
use Rattle.table.specs.PartTrees.{low}
use Rattle.pieces.specs.Pieces.{items, item_laws_lem}
use Rattle.check_trees.specs.declared.Filled.{Filled}
use Rattle.check_trees.specs.Stretches.{stretch, span, span_length, span_at}
use Rattle.check_trees.specs.Deciding.{Decides, decides_no, Every}
use Rattle.check_trees.specs.Loops.{FallsHere, RangedHere}
use Rattle.check_trees.specs.Laid.{item_at, items_at, items_length, items_back, Laid, laid_unique}
use Rattle.check_trees.specs.Along.{AllRanged, ranged_span, span_ranged}
use Rattle.check_trees.specs.Fills.{Fills}
use Rattle.check_trees.specs.FillWalks.{written_length}
use Rattle.check_merge.specs.Stands.{Stands, stands_slots}

-- ---- the order along a stretch

span_line : (w : Words) (xs : List ℕ) (a b k : ℕ) → a ≤ k → k < b → get_or (items_at w (span xs a b)) (k - a) (item_at w 0) ≡ item_at w (get_or xs k 0)
span_line w xs a b k l h =
    let e : a + (k - a) ≡ k = omega arith in
    get_or-map (item_at w) (span xs a b) (k - a) 0 ∙ ap (item_at w) (span_at xs a b (k - a) 0 (omega arith) ∙ ap (λ (z : ℕ). get_or xs z 0) e)

module _ {w : Words} {xs : List ℕ} where
  -- the first of a stretch stands before all others
  head_first : (a n : ℕ) → ((k : ℕ) → a ≤ k → k < a + n → FallsHere w rate_field xs k) → (b : Item) → Memᴰ b (items_at w (stretch xs (suc a) n)) →
      T (items.before (item_at w (get_or xs a 0)) b)
  unfolding stretch
  head_first a zero f b m = elim m [ ]
  head_first a (suc n) f b m = go m (head_first (suc a) n (λ k l h. f k (omega arith) (omega arith)) b)
    where
      next : T (items.before (item_at w (get_or xs a 0)) (item_at w (get_or xs (suc a) 0)))
      next = rw add-one at (f a (omega arith) (omega arith)).falls

      go : Memᴰ b (item_at w (get_or xs (suc a) 0) ∷ items_at w (stretch xs (suc (suc a)) n)) →
          (Memᴰ b (items_at w (stretch xs (suc (suc a)) n)) → T (items.before (item_at w (get_or xs (suc a) 0)) b)) →
          T (items.before (item_at w (get_or xs a 0)) b)
      go (Memᴰ.head e) g = subst (λ (c : Item). T (items.before (item_at w (get_or xs a 0)) c)) (sym e) next
      go (Memᴰ.tail i) g = item_laws_lem.before_trans (item_at w (get_or xs a 0)) (item_at w (get_or xs (suc a) 0)) b next (g i)

  ordered_stretch : (a n : ℕ) → ((k : ℕ) → a ≤ k → k + 1 < a + n → FallsHere w rate_field xs k) → Ordered items (items_at w (stretch xs a n))
  unfolding stretch
  ordered_stretch a zero f = ordered_nil
  ordered_stretch a (suc n) f = ordered_cons (head_first a n (λ k l h. f k l (omega arith)))
      (ordered_stretch (suc a) n (λ k l h. f k (omega arith) (omega arith)))

  pub ordered_span : (a b : ℕ) → Every (FallsHere w rate_field xs) a (b - 1) → Ordered items (items_at w (span xs a b))
  ordered_span a b e = ordered_stretch a (b - a) (λ k l h. e.at k l (omega arith))

  pub span_ordered : (a b : ℕ) → Ordered items (items_at w (span xs a b)) → Every (FallsHere w rate_field xs) a (b - 1)
  span_ordered a b o = record { at = λ k l h. record { falls = falls k l h } }
    where
      falls : (k : ℕ) → a ≤ k → k < b - 1 → T (items.before (item_at w (get_or xs k 0)) (item_at w (get_or xs (k + 1) 0)))
      falls k l h =
          subst₂ (λ (c d : Item). T (items.before c d)) (span_line w xs a b k l (omega arith)) (span_line w xs a b (k + 1) (omega arith) (omega arith))
          (ordered_at items (items_at w (span xs a b)) o (item_at w 0) (k - a) (k + 1 - a) (omega arith)
          (omega (arith, items_length w (span xs a b), span_length xs a b)))

-- ---- the ways through the code

-- a tree of offers stands at node x
pub record StandsAt (w : Words) (x : ℕ) : Type 0 where
  pub tree : Tree Item
  pub stands : Stands w x tree

pub record Orders (w : Words) (x : ℕ) (xs xs' : List ℕ) (r : Bool) : Type 0 where
  pub long : length xs' ≡ length xs
  pub told : Decides r (StandsAt w x)

-- it is no larger than a part
module _ {w : Words} {x : ℕ} {t : Tree Item} (s : Stands w x t) where
  pub stands_most : length (leaves t) ≤ most_slots
  stands_most = omega (arith, slots_most (cap w) (leaves t) (stands_slots s), cap_most w)

  pub stands_low : height t ≤ most_levels
  stands_low = low w (stands_slots s) s.laid.balanced

module _ {w : Words} {x : ℕ} {xs xs' : List ℕ} where
  module _ {r : Option Filled} (F : Fills w offer_tree x most_levels xs xs' 0 r) where
    pub stands_filled : {t : Tree Item} → Stands w x t → IsSome r
    stands_filled {t} s = F.complete t s.laid (stands_low s) (omega (arith, stands_most s))

    orders_no : (StandsAt w x → ⊥) → Orders w x xs xs' false
    orders_no g = record { long = F.long; told = decides_no g }

  pub orders_not_filled : Fills w offer_tree x most_levels xs xs' 0 None → Orders w x xs xs' false
  orders_not_filled F = orders_no F (λ s. never (stands_filled F s.stands) refl)

  module _ {f : Filled} (F : Fills w offer_tree x most_levels xs xs' 0 (Some f)) where
    -- it is the tree that was written
    pub filled_tree : {t : Tree Item} → Laid w offer_tree x t → F.sound.written.tree ≡ t
    filled_tree {t} p = laid_unique F.sound.written.tree t F.sound.written.laid p

    pub filled_next : f.next ≡ length (leaves F.sound.written.tree)
    filled_next = omega (arith, written_length F.sound.written)

    pub filled_items : items_at w (span xs' 0 f.next) ≡ leaves F.sound.written.tree
    filled_items = ap (items_at w) F.sound.written.slots ∙ items_back (leaves F.sound.written.tree) F.sound.written.laid.placed

    module _ {b : Bool} (R : Decides b (Every (RangedHere w xs') 0 f.next)) where
      items_are : (s : StandsAt w x) → leaves s.tree ≡ items_at w (span xs' 0 f.next)
      items_are s = ap leaves (sym (filled_tree s.stands.laid)) ∙ sym filled_items

      pub orders_not_ranged : b ≡ false → Orders w x xs xs' false
      orders_not_ranged g = orders_no F (λ s. never (R.complete (span_ranged 0 f.next (subst AllRanged (items_are s) s.stands.ranged))) g)

      pub orders_rest : {r : Bool} → b ≡ true → Decides r (Every (FallsHere w rate_field xs') 0 (f.next - 1)) → Orders w x xs xs' r
      orders_rest {r} g D = record {
        long = F.long;
        told = record {
          sound = found;
          complete =
              λ s. D.complete (span_ordered 0 f.next (subst (Ordered items) (items_are s) s.stands.ordered));
        };
      }
        where
          found : r ≡ true → StandsAt w x
          found o =
              record {
                tree = F.sound.written.tree;
                stands =
                    record {
                      laid = F.sound.written.laid;
                      ranged = subst AllRanged filled_items (ranged_span 0 f.next (R.sound g));
                      ordered = subst (Ordered items) filled_items (ordered_span 0 f.next (D.sound o));
                    };
              }
