-- `levels::put_behind` meets its contract.
use Rattle.pieces.proofs.Catting.{catted_left, after_any}
use Rattle.levels.proofs.put_behind.Goals as goal

pub returns-then-q-eq0 : goal.returns-then-q-eq0
returns-then-q-eq0 c = after_any (catted_left c.if-q-eq0.true)
