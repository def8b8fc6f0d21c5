-- Theorems on specs/TreeSteps.
use Rattle.std.specs.Prelude.{◌≡◌, Bool, cond, not, ◌≢◌, leb, ℤ}
use Rattle.std.proofs.Math.Path.{sym, ap}
use Rattle.std.proofs.Common.{◌∙◌, le→leb}
use Rattle.std.proofs.Math.Option.{none, some}
use Prim.Native.Nat.{suc, ◌≤◌, ◌<◌}
use native.Mathlib.Omega.{arith}
use Rattle.std.proofs.Math.Arith.{le→nltb, lt→nleb}
use Rattle.std.proofs.Math.Dec.{T, not_T, lt→ltb}
use Rattle.std.specs.Int.Signed.{lt_z}
use Rattle.lists.specs.Bools.{cond_yes, cond_no, cond_again}
use Rattle.integers.specs.Equal.{equal}
use Rattle.integers.specs.Parts.{equal_eq, equal_is}
use Rattle.trees.specs.Tree.{Tree, leaf, node, height, last, mirror, Avl, avl_node}
use Rattle.trees.specs.Operations.{towers, double_right, double_left, rotate_right, rotate_left, balance, join_r, join_l, join, split, after_left}
use Rattle.trees.specs.Operations.{before_right, all_front, all_back, add, find}
use Rattle.trees.specs.Mirror.{mirror_injective, height_mirror, avl_mirror}
use Rattle.trees.proofs.Mirror.{mirror_balance, mirror_join_l, mirror_join}
use Rattle.trees.specs.TreeSteps.{join_left, join_r_join}

module _ {A : Type 0} where
  pub join_l_join : (l r : Tree A) → height l ≤ suc (height r) → join_l l r ≡ join l r
  join_l_join l r h =
      mirror_injective (join_l l r) (join l r) (mirror_join_l l r ∙ join_r_join (mirror r) (mirror l) (simp height_mirror h) ∙ sym (mirror_join l r))

  pub join_right : (l c d : Tree A) → Avl (node c d) → suc (height l) < height (node c d) → join l (node c d) ≡ balance (join l c) d
  join_right l c d p h =
      mirror_injective (join l (node c d)) (balance (join l c) d)
      (mirror_join l (node c d) ∙ join_left (mirror d) (mirror c) (mirror l) (avl_mirror p) (simp height_mirror (omega arith))
      ∙ simp (mirror_balance, mirror_join))
