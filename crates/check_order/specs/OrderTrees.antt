-- The tree of the order from its root on: the ways through the code that looks for one.
use Rattle.std.specs.Prelude.{◌≡◌, refl, Bool, true, false, Option, None, Some, List, ℕ, ◌+◌, ◌-◌, ◌≤◌, ◌<◌, length, get_or}
use Rattle.std.proofs.Common.{sym, ◌∙◌, ap, subst, arith}
use Rattle.lists.specs.Bools.{never}
use Rattle.trees.specs.Tree.{Tree, leaves}
use Rattle.trees.specs.Height.{height_full}
use Rattle.trees.specs.Order.{Falling}
use Rattle.table.specs.Fields.{most_levels, order_tree, rank_field}
use Rattle.table.specs.Words.{Words}
use Rattle.table.specs.Items.{Item}
use Rattle.table.specs.Keys.{Keyed}
use Rattle.form.specs.Form.{rank_of}
use Rattle.check_trees.specs.Scratch.{second_half}
use Rattle.check_trees.specs.declared.Filled.{Filled}
use Rattle.check_trees.specs.Stretches.{span}
use Rattle.check_trees.specs.Deciding.{Decides, decides_no, Every}
use Rattle.check_trees.specs.Loops.{FallsHere, RangedHere}
use Rattle.check_trees.specs.Laid.{items_at, items_back, Laid, laid_unique}
use Rattle.check_trees.specs.Along.{AllRanged, ranged_span, span_ranged, falling_span, span_falling}
use Rattle.check_trees.specs.Fills.{Fills}
use Rattle.check_trees.specs.FillWalks.{written_length}
use Rattle.check_order.specs.Ranked.{RankedHere, keyed_span, span_keyed}

-- node root of the order is the root of a balanced tree of n offers in range, each with its rank, by falling rank
pub record OrderTree (w : Words) (root n : ℕ) : Type 0 where
  pub tree : Tree Item
  pub laid : Laid w order_tree root tree
  pub ranged : AllRanged (leaves tree)
  pub ranked : Keyed w rank_field rank_of (leaves tree)
  pub falling : Falling rank_of (leaves tree)
  pub count : length (leaves tree) ≡ n

-- the answer to whether there is one
pub record Trees (w : Words) (root : ℕ) (xs xs' : List ℕ) (n : ℕ) (r : Bool) : Type 0 where
  pub long : length xs' ≡ length xs
  pub same : (i : ℕ) → i < second_half → get_or xs' i 0 ≡ get_or xs i 0
  pub told : Decides r (OrderTree w root n)
  -- the slots of its leaves stand in the second half
  pub listed : r ≡ true → (t : OrderTree w root n) → items_at w (span xs' second_half (second_half + n)) ≡ leaves t.tree

-- ---- the ways through the code

module _ {w : Words} {root n : ℕ} {xs xs' : List ℕ} (h : n ≤ second_half) where
  none_such : {r : Option Filled} → Fills w order_tree root most_levels xs xs' second_half r → (OrderTree w root n → ⊥) → Trees w root xs xs' n false
  none_such F d = record { long = F.long; same = F.same; told = decides_no d; listed = λ e t. absurd (d t) }

  pub trees_not_filled : Fills w order_tree root most_levels xs xs' second_half None → Trees w root xs xs' n false
  trees_not_filled F =
      none_such F
      (λ t. never (F.complete t.tree t.laid (height_full t.laid.balanced (omega (arith, t.count))) (omega (arith, t.count))) refl)

  module _ {f : Filled} (F : Fills w order_tree root most_levels xs xs' second_half (Some f)) where
    abbrev U : Tree Item
    U = F.sound.written.tree

    -- it is the tree that was written
    written_is : (t : OrderTree w root n) → U ≡ t.tree
    written_is t = laid_unique U t.tree F.sound.written.laid t.laid

    leaves_at : leaves U ≡ items_at w (span xs' second_half f.next)
    leaves_at = sym (items_back (leaves U) F.sound.written.laid.placed) ∙ ap (items_at w) (sym F.sound.written.slots)

    tree_at : (t : OrderTree w root n) → leaves t.tree ≡ items_at w (span xs' second_half f.next)
    tree_at t = sym (ap leaves (written_is t)) ∙ leaves_at

    pub trees_not_long : (f.next ≡ second_half + n → ⊥) → Trees w root xs xs' n false
    trees_not_long d = none_such F (λ t. d (omega (
      arith,
      F.sound.inside,
      written_length F.sound.written,
      ap (λ (s : Tree Item). length (leaves s)) (written_is t),
      t.count,
    )))

    module _ (l : f.next ≡ second_half + n) {b : Bool} (R : Decides b (Every (RangedHere w xs') second_half f.next)) where
      pub trees_not_ranged : b ≡ false → Trees w root xs xs' n false
      trees_not_ranged e = none_such F (λ t. never (R.complete (span_ranged second_half f.next (subst AllRanged (tree_at t) t.ranged))) e)

      module _ (eb : b ≡ true) {k : Bool} (K : Decides k (Every (RankedHere w xs') second_half f.next)) where
        tree_keyed : (t : OrderTree w root n) → Keyed w rank_field rank_of (items_at w (span xs' second_half f.next))
        tree_keyed t = subst (Keyed w rank_field rank_of) (tree_at t) t.ranked

        pub trees_not_ranked : k ≡ false → Trees w root xs xs' n false
        trees_not_ranked e = none_such F (λ t. never (K.complete (span_keyed second_half f.next (tree_keyed t))) e)

        pub trees_rest : {r : Bool} → k ≡ true → Decides r (Every (FallsHere w rank_field xs') second_half (f.next - 1)) → Trees w root xs xs' n r
        trees_rest {r} ek D =
            record {
              long = F.long;
              same = F.same;
              told =
                  record {
                    sound = found;
                    complete = λ t. D.complete
                        (span_falling rank_of xs' second_half f.next (tree_keyed t) (subst (Falling rank_of) (tree_at t) t.falling));
                  };
              listed = λ e t. ap (λ (z : ℕ). items_at w (span xs' second_half z)) (sym l) ∙ sym (tree_at t);
            }
          where
            keyed : Keyed w rank_field rank_of (items_at w (span xs' second_half f.next))
            keyed = keyed_span second_half f.next (K.sound ek)

            found : r ≡ true → OrderTree w root n
            found e =
                record {
                  tree = U;
                  laid = F.sound.written.laid;
                  ranged = subst AllRanged (sym leaves_at) (ranged_span second_half f.next (R.sound eb));
                  ranked = subst (Keyed w rank_field rank_of) (sym leaves_at) keyed;
                  falling = subst (Falling rank_of) (sym leaves_at) (falling_span rank_of xs' second_half f.next keyed (D.sound e));
                  count = omega (arith, written_length F.sound.written);
                }
