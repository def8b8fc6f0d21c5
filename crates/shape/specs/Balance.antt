-- Balance, as steps on words: the two heights tell which rotation it is, or none.
use Rattle.std.specs.Prelude.{◌≡◌, Bool, true, false, not, ℕ, suc, ◌+◌, ◌≤◌, ◌<◌}
use Rattle.std.proofs.Common.{sym, ◌∙◌, arith, lt-ltb, le-ltb}
use Rattle.trees.specs.Tree.{Tree, height}
use Rattle.trees.specs.Operations.{towers}
use Rattle.table.specs.Words.{Words}
use Rattle.table.specs.Items.{Item}
use Rattle.table.specs.Rep.{height_at, node_on, Rep}
use Rattle.table.specs.Nodes.{pair_one, pair_other, rep_height}
use Rattle.shape.specs.Sides.{rotate_on, balance_on, balance_on_lem}
use Rattle.nodes.specs.Joining.{Joined}
use Rattle.shape.specs.Rotations.{reshaped, flipped}

module _ {w : Words} {k x y : ℕ} {s t : Tree Item} {hx hy : ℕ} (a : Rep w k x s) (b : Rep w k y t) (ex : hx ≡ height_at w k x) (ey : hy ≡ height_at w k y) where
  pub tower : hy + 1 < hx → towers s t ≡ true
  tower h = lt-ltb (suc (height t)) (height s) (omega (arith, h, ex, ey, rep_height a, rep_height b))

  pub no_tower : hx ≤ hy + 1 → towers s t ≡ false
  no_tower h = le-ltb (suc (height t)) (height s) (omega (arith, h, ex, ey, rep_height a, rep_height b))

module _ {k gap p q hp hq x : ℕ} {side : Bool} {w w' : Words} (ep : hp ≡ height_at w k p) (eq : hq ≡ height_at w k q) where
  pub balanced_one : hq + 1 < hp → Joined (rotate_on side) k side gap p q w w' x → Joined (balance_on side) k side gap p q w w' x
  balanced_one h j = reshaped j (λ tp tq pair. sym (balance_on_lem side tp tq ∙ rw (tower (pair_one pair) (pair_other pair) ep eq h)))

  pub balanced_other : hp ≤ hq + 1 → hp + 1 < hq → Joined (rotate_on (not side)) k (not side) gap q p w w' x → Joined (balance_on side) k side gap p q w w' x
  balanced_other h d j =
      reshaped (flipped {side = side} j)
      (λ tp tq pair. sym (balance_on_lem side tp tq ∙ rw (no_tower (pair_one pair) (pair_other pair) ep eq h, tower (pair_other pair) (pair_one pair) eq ep d)))

  pub balanced_level : hp ≤ hq + 1 → hq ≤ hp + 1 → Joined (node_on side) k side gap p q w w' x → Joined (balance_on side) k side gap p q w w' x
  balanced_level h d j =
      reshaped j (λ tp tq pair. sym (balance_on_lem side tp tq ∙ rw (
        no_tower (pair_one pair) (pair_other pair) ep eq h,
        no_tower (pair_other pair) (pair_one pair) eq ep d,
      )))
