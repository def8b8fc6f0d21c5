-- The tree of numbers over the live items in the slots at places 0 up to n: the ways through the code that looks for one.
use Rattle.std.specs.Prelude.{◌≡◌, refl, Bool, true, false, Option, None, Some, IsSome, ℕ, ◌+◌, ◌-◌, ◌≤◌, ◌<◌, length, get_or}
use Rattle.std.proofs.Common.{sym, ◌∙◌, ap, subst, arith}
use mathlib.Core.List.Pairwise
use mathlib.Core.List.{List, Memᴰ, Pairwise}
use Rattle.std.proofs.Math.Decide.{ℕ_discrete}
use Rattle.lists.specs.Bools.{never}
use Rattle.lists.specs.Members.{Among}
use Rattle.trees.specs.Tree.{Tree, leaves}
use Rattle.trees.specs.Height.{height_full}
use Rattle.trees.specs.Order.{Falling}
use Rattle.table.specs.Fields.{most_levels, number_field, number_tree}
use Rattle.table.specs.Words.{Words}
use Rattle.table.specs.Items.{Item, Apart}
use Rattle.table.specs.Keys.{Keyed}
use Rattle.form.specs.Form.{number_of}
use Rattle.check_trees.specs.Scratch.{second_half}
use Rattle.check_trees.specs.declared.Filled.{Filled}
use Rattle.check_trees.specs.Deciding.{Decides, decides_no, Every}
use Rattle.check_trees.specs.Stretches.{span, span_length}
use Rattle.check_trees.specs.Loops.{FallsHere}
use Rattle.check_trees.specs.Laid.{item_at, items_at, items_length, items_back, AllPlaced, Laid, laid_unique}
use Rattle.check_trees.specs.Along.{item_mem, span_all, falling_span, span_falling, falling_differ, placed_one}
use Rattle.check_trees.specs.Fills.{Fills}
use Rattle.check_trees.specs.FillWalks.{written_length}
use Rattle.check_numbers.specs.Distinct.{Distinct, among_length, among_all}
use Rattle.check_numbers.specs.Seeking.{placed_numbers, HasHere, SeeksAll}

-- ---- the live items

abbrev pub live_at : Words → List ℕ → ℕ → List Item
live_at w xs n = items_at w (span xs 0 n)

pub live_length : (w : Words) (xs : List ℕ) (n : ℕ) → length (live_at w xs n) ≡ n
live_length w xs n = omega (arith, items_length w (span xs 0 n), span_length xs 0 n)

pub apart_distinct : {xs : List Item} → Pairwise Apart xs → Distinct xs
apart_distinct = Pairwise.imp (λ a b d e. d (ap (λ (i : Item). i.slot) e))

falling_distinct : {xs : List Item} → Falling number_of xs → Distinct xs
falling_distinct = Pairwise.imp (λ a b h. falling_differ number_of {a = a} {b = b} h)

-- ---- their tree

-- node root of the numbers is the root of a balanced tree of these items, by falling number
pub record NumberTree (w : Words) (root : ℕ) (live : List Item) : Type 0 where
  pub tree : Tree Item
  pub laid : Laid w number_tree root tree
  pub falling : Falling number_of (leaves tree)
  pub all_live : Among (leaves tree) live
  pub all_there : Among live (leaves tree)

-- it has as many leaves
tree_length : {w : Words} {root : ℕ} {live : List Item} → Pairwise Apart live → (t : NumberTree w root live) → length (leaves t.tree) ≡ length live
tree_length {live} p t =
    omega (
      arith,
      among_length (leaves t.tree) live (falling_distinct t.falling) t.all_live,
      among_length live (leaves t.tree) (apart_distinct p) t.all_there,
    )

-- the answer to whether there is one
pub record Trees (w : Words) (root : ℕ) (xs xs' : List ℕ) (n : ℕ) (r : Bool) : Type 0 where
  pub long : length xs' ≡ length xs
  pub told : AllPlaced w (live_at w xs n) → Pairwise Apart (live_at w xs n) → Decides r (NumberTree w root (live_at w xs n))

-- ---- the ways through the code

module _ {w : Words} {root n : ℕ} {xs xs' : List ℕ} (h : n ≤ second_half) where
  none_such : {r : Option Filled} → Fills w number_tree root most_levels xs xs' second_half r →
      (Pairwise Apart (live_at w xs n) → NumberTree w root (live_at w xs n) → ⊥) → Trees w root xs xs' n false
  none_such F d = record { long = F.long; told = λ p q. decides_no (d q) }

  pub trees_not_filled : Fills w number_tree root most_levels xs xs' second_half None → Trees w root xs xs' n false
  trees_not_filled F = none_such F (λ q t. never (filled q t) refl)
    where
      filled : Pairwise Apart (live_at w xs n) → NumberTree w root (live_at w xs n) → IsSome {T = Filled} None
      filled q t =
          let m : length (leaves t.tree) ≡ n = tree_length q t ∙ live_length w xs n in
          F.complete t.tree t.laid (height_full t.laid.balanced (omega arith)) (omega arith)

  module _ {f : Filled} (F : Fills w number_tree root most_levels xs xs' second_half (Some f)) where
    abbrev U : Tree Item
    U = F.sound.written.tree

    -- it is the tree that was written
    written_is : (t : NumberTree w root (live_at w xs n)) → U ≡ t.tree
    written_is t = laid_unique U t.tree F.sound.written.laid t.laid

    pub trees_not_long : (f.next ≡ second_half + n → ⊥) → Trees w root xs xs' n false
    trees_not_long d = none_such F (λ q t. d (omega (
      arith,
      F.sound.inside,
      written_length F.sound.written,
      ap (λ (s : Tree Item). length (leaves s)) (written_is t),
      tree_length q t,
      live_length w xs n,
    )))

    leaves_at : leaves U ≡ items_at w (span xs' second_half f.next)
    leaves_at = sym (items_back (leaves U) F.sound.written.laid.placed) ∙ ap (items_at w) (sym F.sound.written.slots)

    keyed : Keyed w number_field number_of (items_at w (span xs' second_half f.next))
    keyed = subst (Keyed w number_field number_of) leaves_at (placed_numbers F.sound.written.laid.placed)

    module _ {b : Bool} (D : Decides b (Every (FallsHere w number_field xs') second_half (f.next - 1))) where
      pub trees_not_falling : b ≡ false → Trees w root xs xs' n false
      trees_not_falling e =
          none_such F (λ q t. never
          (D.complete (span_falling number_of xs' second_half f.next keyed
          (subst (Falling number_of) (sym (ap leaves (written_is t)) ∙ leaves_at) t.falling))) e)

      module _ (e : b ≡ true) (l : f.next ≡ second_half + n) where
        falls : Falling number_of (leaves U)
        falls = subst (Falling number_of) (sym leaves_at) (falling_span number_of xs' second_half f.next keyed (D.sound e))

        same : (k : ℕ) → k < n → get_or xs' k 0 ≡ get_or xs k 0
        same k a = F.same k (omega arith)

        lows : AllPlaced w (live_at w xs n) → Every (λ k. 1 ≤ get_or xs' k 0) 0 n
        lows p = record { at = λ k a b. omega (arith, same k b, (p (item_at w (get_or xs k 0)) (item_mem w xs 0 n k a b)).low) }

        there : Every (HasHere w U xs') 0 n → Among (live_at w xs n) (leaves U)
        there g = span_all w xs (λ (a : Item). Memᴰ a (leaves U)) 0 n (λ k a b. subst (λ (s : ℕ). Memᴰ (item_at w s) (leaves U)) (same k b)
            (g.at k a b).has)

        one_item : AllPlaced w (live_at w xs n) → (a b : Item) → Memᴰ a (live_at w xs n) → Memᴰ b (leaves U) → Dec (b ≡ a)
        one_item p a b i j = go (ℕ_discrete b.slot a.slot)
          where
            go : Dec (b.slot ≡ a.slot) → Dec (b ≡ a)
            go (yes s) = yes (placed_one (F.sound.written.laid.placed b j) (p a i) s)
            go (no d) = no (λ s. d (ap (λ (c : Item). c.slot) s))

        many : length (leaves U) ≤ length (live_at w xs n)
        many = omega (arith, written_length F.sound.written, live_length w xs n)

        pub trees_rest : {r : Bool} → SeeksAll w root xs' n r → Trees w root xs xs' n r
        trees_rest {r} S = record {
          long = F.long;
          told = λ p q. record {
            sound = λ t. found p q ((seen p).sound t);
            complete =
                λ t. (seen p).complete (all t);
          };
        }
          where
            seen : AllPlaced w (live_at w xs n) → Decides r (Every (HasHere w U xs') 0 n)
            seen p = S.told U F.sound.written.laid falls (lows p)

            found : AllPlaced w (live_at w xs n) → Pairwise Apart (live_at w xs n) → Every (HasHere w U xs') 0 n → NumberTree w root (live_at w xs n)
            found p q g =
                record {
                  tree = U;
                  laid = F.sound.written.laid;
                  falling = falls;
                  all_live = among_all (live_at w xs n) (leaves U) (apart_distinct q) (there g) many (one_item p);
                  all_there = there g;
                }

            all : NumberTree w root (live_at w xs n) → Every (HasHere w U xs') 0 n
            all t =
                record {
                  at = λ k a b. record {
                    has =
                        subst (λ (s : ℕ). Memᴰ (item_at w s) (leaves U)) (sym (same k b))
                        (subst (Memᴰ (item_at w (get_or xs k 0))) (ap leaves (sym (written_is t)))
                        (t.all_there (item_at w (get_or xs k 0)) (item_mem w xs 0 n k a b)));
                  };
                }
