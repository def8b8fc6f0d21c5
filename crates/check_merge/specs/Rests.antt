-- What stays with a node of the offers, compared with the word itself: a word outside the range of node numbers is read as 0 too.
use Rattle.std.specs.Prelude.{◌≡◌, refl, Bool, true, false, ℕ, ◌-◌, ◌≤◌, ◌<◌, length, get_or, pos}
use Rattle.std.proofs.Common.{sym, ◌∙◌, ap, subst, arith, le-ltb, lt-ltb}
use mathlib.Core.List.Memᴰ
use mathlib.Core.List.{List, Memᴰ}
use Rattle.std.proofs.Math.Option.{none, some}
use Rattle.lists.specs.Bools.{never}
use Rattle.trees.specs.Tree.{leaf, node, leaves, last}
use Rattle.trees.specs.Leaves.{last_leaf}
use Rattle.trees.specs.Operations.{Part, part_leaves}
use Rattle.table.specs.Fields.{inner_rest_field, leaf_rest_field, most_nodes, most_slots}
use Rattle.table.specs.Words.{Words, up_to, up_to_in}
use Rattle.table.specs.Layout.{cap_most, cell}
use Rattle.table.specs.Items.{Item}
use Rattle.form.specs.RestWords.{rest_word, rest_at}
use Rattle.table.specs.PartTrees.{part_ref}
use Rattle.check_trees.specs.Scratch.{second_half}
use Rattle.check_trees.specs.Stretches.{span}
use Rattle.check_trees.specs.Deciding.{Decides, decides_no, decides_as}
use Rattle.check_trees.specs.Laid.{items_at}
use Rattle.check_merge.specs.PieceTrees.{AllKnown, known_placed, PieceTree, Matches}

-- ---- the word

module _ (w : Words) {n q : ℕ} {r : Bool} where
  pub told_inner : {m : ℕ} → most_slots < n → m ≡ n - most_slots → Decides r (cell w inner_rest_field m ≡ pos q) → Decides r (rest_word w n ≡ pos q)
  told_inner h e d = rw (lt-ltb most_slots n h) (decides_as (λ p. ap (cell w inner_rest_field) (sym e) ∙ p) (λ p. ap (cell w inner_rest_field) e ∙ p) d)

  pub told_leaf : n ≤ most_slots → Decides r (cell w leaf_rest_field n ≡ pos q) → Decides r (rest_word w n ≡ pos q)
  told_leaf h d = rw (le-ltb most_slots n h) d

-- ---- the piece tree

-- the word of what stays with node n is the root of a balanced tree over these slots, threaded; 0 where there are none
pub record RestTree (w : Words) (n : ℕ) (ss : List ℕ) : Type 0 where
  pub root : ℕ
  pub word : rest_word w n ≡ pos root
  pub tree : PieceTree w root ss

-- a root is the number of a node
root_small : {w : Words} {q : ℕ} (ss : List ℕ) → AllKnown w ss → PieceTree w q ss → q ≤ most_nodes
root_small {w} {q} ss known p = go p.whole p.root p.over
  where
    high : (h : Part Item) (a : Item) → part_leaves h ≡ items_at w ss → Memᴰ a (part_leaves h) → a.slot ≤ most_slots
    high h a o m = omega (arith, (known_placed ss known a (subst (Memᴰ a) o m)).high, cap_most w)

    go : (h : Part Item) → q ≡ part_ref h → part_leaves h ≡ items_at w ss → q ≤ most_nodes
    go none e o = omega arith
    go (some (leaf a)) e o = omega (arith, high (some (leaf a)) a o (Memᴰ.head refl))
    go (some (node l r)) e o = omega (arith, high (some (node l r)) (last l) o (Memᴰ.append_left (leaves r) (last_leaf l)))

-- ---- the ways through the code

pub record Stays (w : Words) (n : ℕ) (xs xs' : List ℕ) (from to : ℕ) (r : Bool) : Type 0 where
  pub long : length xs' ≡ length xs
  pub same : (i : ℕ) → i < second_half → get_or xs' i 0 ≡ get_or xs i 0
  pub told : AllKnown w (span xs from to) → Decides r (RestTree w n (span xs from to))

module _ {w : Words} {n q : ℕ} {b : Bool} (e : q ≡ rest_at w n) (exact : Decides b (rest_word w n ≡ pos q)) where
  read : (ss : List ℕ) → AllKnown w ss → (t : RestTree w n ss) → q ≡ t.root
  read ss known t = e ∙ ap (up_to most_nodes) t.word ∙ up_to_in most_nodes t.root (root_small ss known t.tree)

  pub stays_not : {from to : ℕ} {xs : List ℕ} → b ≡ false → Stays w n xs xs from to false
  stays_not {from} {to} {xs} eb =
      record {
        long = refl;
        same = λ i h. refl;
        told = λ known. decides_no
            (λ t. never (exact.complete (t.word ∙ ap pos (sym (read (span xs from to) known t)))) eb);
      }

  pub stays_rest : {from to : ℕ} {xs xs' : List ℕ} {r : Bool} → b ≡ true → Matches w q xs xs' from to r → Stays w n xs xs' from to r
  stays_rest {from} {to} {xs} eb M =
      record {
        long = M.long;
        same = M.same;
        told = λ known.
            decides_as (λ p. record { root = q; word = exact.sound eb; tree = p })
            (λ t. subst (λ (k : ℕ). PieceTree w k (span xs from to)) (sym (read (span xs from to) known t)) t.tree)
            (M.told known);
      }
