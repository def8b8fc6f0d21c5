-- A slot sought by its number in a tree of numbers: it is found exactly where the tree has its item.
use Rattle.std.specs.Prelude.{◌≡◌, refl, Bool, true, false, ℕ, ◌≤◌, ◌<◌, eqb, ℤ, MatchBool, get_or}
use Rattle.std.proofs.Common.{sym, ◌∙◌, ap, subst, arith, eqb-true, eq-eqb}
use mathlib.Core.List.{List, Memᴰ}
use Rattle.std.proofs.Math.Option.{Option, none, some}
use Rattle.lists.specs.Bools.{never}
use Rattle.trees.specs.Tree.{Tree, leaves}
use Rattle.trees.specs.Operations.{find}
use Rattle.trees.specs.Find.{find_sound, find_complete}
use Rattle.trees.specs.Order.{Falling}
use Rattle.table.specs.Fields.{number_field, number_tree}
use Rattle.table.specs.Words.{Words}
use Rattle.table.specs.Layout.{cell}
use Rattle.table.specs.Items.{Item}
use Rattle.table.specs.Keys.{Keyed}
use Rattle.table.specs.Rep.{Rep}
use Rattle.descents.specs.Finds.{Found, found_at}
use Rattle.form.specs.Form.{number_of}
use Rattle.check_trees.specs.Deciding.{Decides, decides_no, decides_yes, Every}
use Rattle.check_trees.specs.Laid.{item_at, AllPlaced, Laid}
use Rattle.check_trees.specs.Along.{falling_apart}

-- an item's number is in its slot
pub placed_numbers : {w : Words} {xs : List Item} → AllPlaced w xs → Keyed w number_field number_of xs
placed_numbers p = record { read = λ {a} m. sym (ap number_of (p a m).is) }

module _ {w : Words} {root : ℕ} (t : Tree Item) (L : Laid w number_tree root t) (F : Falling number_of (leaves t)) where
  laid_rep : Rep w number_tree root t
  laid_rep =
      record {
        kind = omega arith;
        root = L.root;
        slots = record { low = λ {a} m. (L.placed a m).low; high = λ {a} m. (L.placed a m).high; apart = falling_apart number_of L.placed F };
        tied = L.tied;
      }

  laid_keyed : Keyed w number_field number_of (leaves t)
  laid_keyed = placed_numbers L.placed

-- the answer to whether the tree at that root has slot s
pub record Seeks (w : Words) (root s : ℕ) (r : Bool) : Type 0 where
  pub told : (t : Tree Item) → Laid w number_tree root t → Falling number_of (leaves t) → 1 ≤ s → Decides r (Memᴰ (item_at w s) (leaves t))

pub seeks : {w : Words} {root s y : ℕ} {z : ℤ} → z ≡ cell w number_field s → Found w number_tree number_field z root y → Seeks w root s (eqb y s)
seeks {w} {root} {s} {y} {z} e f = record { told = told }
  where
    told : (t : Tree Item) → Laid w number_tree root t → Falling number_of (leaves t) → 1 ≤ s → Decides (eqb y s) (Memᴰ (item_at w s) (leaves t))
    told t L F l = record {
      sound = λ q. sound (find number_of z t) refl (sym is ∙ eqb-true y s q);
      complete =
          λ m. eq-eqb y s (is ∙ ap found_at (find_complete number_of z t F (record { inside = m; keyed = sym e })));
    }
      where
        is : y ≡ found_at (find number_of z t)
        is = f.is t number_of (laid_rep t L F) L.balanced (laid_keyed t L F)

        sound : (o : Option Item) → find number_of z t ≡ o → found_at o ≡ s → Memᴰ (item_at w s) (leaves t)
        sound none q h = absurd (omega arith)
        sound (some a) q h =
            let m = (find_sound number_of z t q).inside in
            subst (λ (b : Item). Memᴰ b (leaves t)) ((L.placed a m).is ∙ ap (item_at w) h) m

-- ---- one slot after another

-- the tree has the item in the slot at place k
pub record HasHere (w : Words) (t : Tree Item) (xs : List ℕ) (k : ℕ) : Type 0 where
  pub has : Memᴰ (item_at w (get_or xs k 0)) (leaves t)

pub record SeeksAll (w : Words) (root : ℕ) (xs : List ℕ) (n : ℕ) (r : Bool) : Type 0 where
  pub told : (t : Tree Item) → Laid w number_tree root t → Falling number_of (leaves t) → Every (λ k. 1 ≤ get_or xs k 0) 0 n →
      Decides r (Every (HasHere w t xs) 0 n)

-- every slot was found where it is there, or one was not
module _ {w : Words} {root n : ℕ} {xs : List ℕ} where
  pub seeks_all : (r : Bool) →
      MatchBool r (Every (λ k. Seeks w root (get_or xs k 0) true) 0 n) ((k : ℕ) × (0 ≤ k) × (k < n) × Seeks w root (get_or xs k 0) false) →
      SeeksAll w root xs n r
  seeks_all true f =
      record { told = λ t L F l. decides_yes (record { at = λ k a b. record { has = ((f.at k a b).told t L F (l.at k a b)).sound refl } }) }
  seeks_all false (k, a, b, f) =
      record { told = λ t L F l. decides_no (λ p. never ((f.told t L F (l.at k a b)).complete (p.at k a b).has) refl) }
