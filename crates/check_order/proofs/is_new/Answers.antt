-- `check_order::is_new` meets its contract.
use native.Mathlib.Omega.{arith}
use Rattle.check_order.specs.Heads.{new_first, new_later}
use Rattle.check_order.proofs.is_new.Goals as goal

pub returns-then-last-lt1 : goal.returns-then-last-lt1
returns-then-last-lt1 c = new_first _ _ _ c.if-last-lt1.true

pub returns : goal.returns
returns c = new_later _ _ _ (omega (arith, c.if-last-lt1.false)) c.falls.ensures
