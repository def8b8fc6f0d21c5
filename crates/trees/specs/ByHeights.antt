-- A choice by the heights of two trees, in proofs.
use Rattle.std.specs.Prelude.{cond, suc, ◌≤◌, ◌<◌}
use Rattle.std.proofs.Common.{ltb→lt, nltb→le}
use Rattle.lists.specs.Bools.{cond_both}
use Rattle.trees.specs.Operations.{towers}
use Rattle.trees.specs.Tree.{Tree, height}

pub by_heights :
    {A X : Type 0} (P : X → Type 0) (l r : Tree A) {x y z : X} →
    (suc (height r) < height l → P x) →
    (suc (height l) < height r → P y) →
    (height l ≤ suc (height r) → height r ≤ suc (height l) → P z) →
    P (cond (towers l r) x (cond (towers r l) y z))
by_heights P l r f g h =
    cond_both P (towers l r) (λ t. f (ltb→lt _ _ t)) (λ t. cond_both P (towers r l) (λ u. g (ltb→lt _ _ u)) (λ u. h (nltb→le _ _ t) (nltb→le _ _ u)))
