-- `replay::run` meets its contract. The loop's invariant: what is done so far makes, with what is left, the whole.
use mathlib.Core.Path.{refl}
use Rattle.replay.specs.Running.{turn_ends, turn_goes}
use Rattle.replay.proofs.run.Goals as goal

pub returns-then-used-lt1 : goal.returns-then-used-lt1
returns-then-used-lt1 c = turn_ends _ _ c.loop-start.invariant c.one_call-used.ensures refl c.if-used-lt1.true

pub loop-start-preserved : goal.loop-start-preserved
loop-start-preserved c = turn_goes _ _ c.loop-start.invariant c.one_call-used.ensures refl c.if-used-lt1.false
