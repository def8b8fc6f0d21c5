-- `recording::range_cause` meets its contract: by the three ranges, in the order of the trials.
use mir.Facts.{to_z-of_z}
use Rattle.recording.specs.Ranges.{number_out, rate_out, base_out}
use Rattle.recording.proofs.range_cause.Goals as goal

pub returns-then-outside : goal.returns-then-outside
returns-then-outside c = number_out _ _ _ (simp (to_z-of_z, c.ranges.number) at c.outside.ensures) c.if-outside.true

pub returns-then-outside-2 : goal.returns-then-outside-2
returns-then-outside-2 c = rate_out _ _ _ (simp (to_z-of_z, c.ranges.number) at c.outside.ensures) c.if-outside.false
    (simp (to_z-of_z, c.ranges.rate) at c.outside-2.ensures) c.if-outside-2.true

pub returns-then-outside-3 : goal.returns-then-outside-3
returns-then-outside-3 c = base_out _ _ _ (simp (to_z-of_z, c.ranges.number) at c.outside.ensures) c.if-outside.false
    (simp (to_z-of_z, c.ranges.rate) at c.outside-2.ensures) c.if-outside-2.false
    (simp (to_z-of_z, c.ranges.base) at c.outside-3.ensures) c.if-outside-3.true
