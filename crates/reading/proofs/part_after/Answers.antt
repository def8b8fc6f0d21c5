-- `reading::part_after` meets its contract: past the last piece there is none, and any other leads to the next.
use Rattle.reading.specs.PartReading.{after_none, after_last, after_next}
use Rattle.reading.proofs.part_after.Goals as goal

pub returns-then-place-lt1 : goal.returns-then-place-lt1
returns-then-place-lt1 c = after_none c.if-place-lt1.true

pub returns-then-place-end : goal.returns-then-place-end
returns-then-place-end c = after_last c.envelope_root-root.ensures c.end.ensures c.if-place-end.true

pub returns : goal.returns
returns c = after_next c.envelope_root-root.ensures c.end.ensures c.if-place-lt1.false c.if-place-end.false c.link.ensures
