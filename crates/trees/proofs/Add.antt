-- A leaf added where the test turns: the leaves, the balance, and the last leaf, which stays where it fails the test.
use Rattle.std.specs.Prelude.{◌≡◌, Bool, cond, not, T}
use Rattle.std.proofs.Math.Path.{refl, ap}
use Rattle.std.proofs.Common.{◌∙◌}
use Rattle.std.proofs.Math.Bool.{true, false}
use mathlib.Core.List.{List, ◌∷◌, ◌++◌, append_assoc}
use Rattle.std.proofs.Math.Option.{none, some}
use Rattle.lists.specs.Bools.{cond_both}
use Rattle.trees.specs.Tree.{Tree, leaf, node, leaves, last, Avl, avl_leaf, avl_node}
use Rattle.trees.specs.Operations.{Part, Cut, part_leaves, join, after_left, before_right, all_front, all_back, split, split_p, add, add_p}
use Rattle.trees.specs.TreeSteps.{add_before}
use Rattle.trees.proofs.Leaves.{leaves_join, leaves_join_p, last_join}
use Rattle.trees.specs.Balanced.{AvlP}
use Rattle.trees.proofs.Balanced.{near_join}

module _ {A : Type 0} (test : A → Bool) (a : A) where
  -- the leaves of a cut's parts with the new one between
  abbrev pub between : Cut A → List A
  between c = part_leaves c.front ++ (a ∷ part_leaves c.back)

  add_leaves : (t : Tree A) → leaves (add test a t) ≡ between (split test t)
  unfolding add split
  add_leaves (leaf x) = one (test x)
    where
      one : (b : Bool) → leaves (cond b (join (leaf x) (leaf a)) (join (leaf a) (leaf x))) ≡ between (cond b (all_front (leaf x)) (all_back (leaf x)))
      one true = leaves_join (leaf x) (leaf a)
      one false = leaves_join (leaf a) (leaf x)
  add_leaves (node l r) = one (add_leaves l) (add_leaves r) (test (last l))
    where
      one : leaves (add test a l) ≡ between (split test l) → leaves (add test a r) ≡ between (split test r) → (b : Bool) →
          leaves (cond b (join l (add test a r)) (join (add test a l) r)) ≡ between (cond b (after_left l (split test r)) (before_right (split test l) r))
      one f g true = simp (leaves_join, leaves_join_p, append_assoc, g)
      one f g false = simp (leaves_join, leaves_join_p, append_assoc, f)

  pub add_avl : {t : Tree A} → Avl t → Avl (add test a t)
  unfolding add
  add_avl (avl_leaf {a = x}) =
      cond_both Avl (test x) (λ t. (near_join (leaf x) (leaf a) avl_leaf avl_leaf).avl) (λ t. (near_join (leaf a) (leaf x) avl_leaf avl_leaf).avl)
  add_avl (avl_node {l} {r} pl pr hl hr) =
      cond_both Avl (test (last l)) (λ t. (near_join l (add test a r) pl (add_avl pr)).avl) (λ t. (near_join (add test a l) r (add_avl pl) pr).avl)

  -- so a separator above stays one
  pub add_last : (t : Tree A) → T (not (test (last t))) → last (add test a t) ≡ last t
  unfolding add
  add_last (leaf x) n = ap last (add_before test a x n) ∙ last_join (leaf a) (leaf x)
  add_last (node l r) n =
      cond_both (λ t. last t ≡ last r) (test (last l)) (λ t. last_join l (add test a r) ∙ add_last r n) (λ t. last_join (add test a l) r)

  -- ---- of a tree that may be empty

  pub add_p_leaves : (p : Part A) → part_leaves (add_p test a p) ≡ between (split_p test p)
  unfolding split_p
  add_p_leaves none = refl
  add_p_leaves (some t) = add_leaves t

  pub add_p_avl : (p : Part A) → AvlP p → AvlP (add_p test a p)
  add_p_avl none v = avl_leaf
  add_p_avl (some t) v = add_avl v
