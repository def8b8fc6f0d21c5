-- Theorems on specs/Mirror.
use Rattle.std.specs.Prelude.{◌≡◌, Bool, cond, suc, T, leb}
use Rattle.std.proofs.Math.Path.{refl}
use Rattle.std.proofs.Common.{sym, ap, ◌∙◌, arith, ltb→lt}
use Rattle.std.proofs.Math.Nat.{max_comm}
use Rattle.lists.specs.Bools.{cond_map, cond_swap}
use Rattle.trees.specs.Tree.{Tree, leaf, node, height, mirror, Avl, avl_leaf, avl_node}
use Rattle.trees.specs.Operations.{towers, double_right, double_left, rotate_right, rotate_left, balance, join_r, join_l, join}
use Rattle.trees.specs.Mirror.{height_mirror, mirror_cond, mirror_rotate_right, towers_apart, towers_mirror, turned}

module _ {A : Type 0} where
  pub mirror_rotate_left : (l r : Tree A) → mirror (rotate_left l r) ≡ rotate_right (mirror r) (mirror l)
  mirror_rotate_left = turned rotate_right rotate_left mirror_rotate_right

  pub mirror_balance : (l r : Tree A) → mirror (balance l r) ≡ balance (mirror r) (mirror l)
  unfolding balance
  mirror_balance l r =
      simp (height_mirror, mirror_cond, mirror_rotate_right, mirror_rotate_left) (cond_swap (towers l r) (towers r l) _ _ _ (towers_apart l r))

  pub mirror_join_r : (l r : Tree A) → mirror (join_r l r) ≡ join_l (mirror r) (mirror l)
  unfolding join_r join_l
  mirror_join_r (leaf x) r = refl
  mirror_join_r (node a b) r = simp (mirror_cond, mirror_balance, mirror_join_r b r) (rw (towers_mirror (node a b) r))

  pub mirror_join_l : (l r : Tree A) → mirror (join_l l r) ≡ join_r (mirror r) (mirror l)
  mirror_join_l = turned join_r join_l mirror_join_r

  pub mirror_join : (l r : Tree A) → mirror (join l r) ≡ join (mirror r) (mirror l)
  unfolding join
  mirror_join l r =
      simp (height_mirror, mirror_cond, mirror_join_r, mirror_join_l) (cond_swap (towers l r) (towers r l) _ _ _ (towers_apart l r))
