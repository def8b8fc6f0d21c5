-- Theorems on specs/Leaves.
use Rattle.std.specs.Prelude.{◌≡◌, ◌≤◌, leb, length}
use Rattle.std.proofs.Math.Path.{refl, sym, ap}
use Rattle.std.proofs.Common.{◌∙◌, arith}
use mathlib.Core.List.Memᴰ
use mathlib.Core.List.{List, [], ◌∷◌, ◌++◌, append_assoc, append-nil, reverse, reverse-append, head-eq_of_cons-eq, Memᴰ}
use Rattle.std.proofs.Math.Option.{none, some}
use Rattle.lists.specs.Bools.{cond_both}
use Rattle.trees.specs.Tree.{Tree, leaf, node, height, leaves, first, last, mirror}
use Rattle.trees.specs.Operations.{Part, towers, double_right, double_left, rotate_right, rotate_left, balance, join_r, join_l, join, part_leaves, join_p}
use Rattle.trees.specs.ByHeights.{by_heights}
use Rattle.trees.specs.Leaves.{leaves_double_right, leaves_rotate_left, same_first, same_last}

module _ {A : Type 0} where
  leaves_rotate_right : (l r : Tree A) → leaves (rotate_right l r) ≡ leaves l ++ leaves r
  unfolding rotate_right
  leaves_rotate_right (leaf x) r = refl
  leaves_rotate_right (node a m) r =
      cond_both (λ t. leaves t ≡ (leaves a ++ leaves m) ++ leaves r) (leb (height m) (height a)) (λ t. simp append_assoc)
      (λ t. simp (append_assoc, leaves_double_right))

  pub leaves_balance : (l r : Tree A) → leaves (balance l r) ≡ leaves l ++ leaves r
  unfolding balance
  leaves_balance l r =
      by_heights (λ t. leaves t ≡ leaves l ++ leaves r) l r (λ t. leaves_rotate_right l r) (λ t. leaves_rotate_left l r) (λ s t. refl)

  pub leaves_join_r : (l r : Tree A) → leaves (join_r l r) ≡ leaves l ++ leaves r
  unfolding join_r
  leaves_join_r (leaf x) r = refl
  leaves_join_r (node a b) r =
      let ih = leaves_join_r b r in
      cond_both (λ t. leaves t ≡ (leaves a ++ leaves b) ++ leaves r) (towers (node a b) r) (λ t. simp (leaves_balance, ih, append_assoc)) (λ t. refl)

  pub leaves_join_l : (l r : Tree A) → leaves (join_l l r) ≡ leaves l ++ leaves r
  unfolding join_l
  leaves_join_l l (leaf x) = refl
  leaves_join_l l (node c d) =
      let ih = leaves_join_l l c in
      cond_both (λ t. leaves t ≡ leaves l ++ (leaves c ++ leaves d)) (towers (node c d) l) (λ t. simp (leaves_balance, ih, append_assoc)) (λ t. refl)

  pub leaves_join : (l r : Tree A) → leaves (join l r) ≡ leaves l ++ leaves r
  unfolding join
  leaves_join l r = by_heights (λ t. leaves t ≡ leaves l ++ leaves r) l r (λ t. leaves_join_r l r) (λ t. leaves_join_l l r) (λ s t. refl)

  pub leaves_join_p : (p q : Part A) → part_leaves (join_p p q) ≡ part_leaves p ++ part_leaves q
  leaves_join_p none q = refl
  leaves_join_p (some l) none = sym (append-nil (leaves l))
  leaves_join_p (some l) (some r) = leaves_join l r

  pub first_balance : (l r : Tree A) → first (balance l r) ≡ first l
  first_balance l r = same_first (balance l r) (node l r) (leaves_balance l r)

  pub last_balance : (l r : Tree A) → last (balance l r) ≡ last r
  last_balance l r = same_last (balance l r) (node l r) (leaves_balance l r)

  pub first_join : (l r : Tree A) → first (join l r) ≡ first l
  first_join l r = same_first (join l r) (node l r) (leaves_join l r)

  pub last_join : (l r : Tree A) → last (join l r) ≡ last r
  last_join l r = same_last (join l r) (node l r) (leaves_join l r)
