-- `reading_steps::nth_place` meets its contract: a place 0 stays, whatever the number of pieces.
use Rattle.reading.specs.PartReading.{nearing_past}
use Rattle.reading_steps.proofs.nth_place.Goals as goal

pub returns-then-place-lt1 : goal.returns-then-place-lt1
returns-then-place-lt1 c = nearing_past c.loop.invariant c.if-place-lt1.true
