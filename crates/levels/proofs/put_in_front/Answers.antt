-- `levels::put_in_front` meets its contract.
use Rattle.pieces.proofs.Catting.{catted_right, before_any}
use Rattle.levels.proofs.put_in_front.Goals as goal

pub returns-then-q-eq0 : goal.returns-then-q-eq0
returns-then-q-eq0 c = before_any (catted_right c.if-q-eq0.true)
