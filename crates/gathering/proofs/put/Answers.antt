-- `gathering::put` meets its contract.
use Rattle.gathering.specs.Gathers.{put_none, put_here}
use Rattle.gathering.proofs.put.Goals as goal

pub returns-then-at-ge-SLOTS : goal.returns-then-at-ge-SLOTS
returns-then-at-ge-SLOTS c = put_none c.if-at-ge-SLOTS.true

pub returns : goal.returns
returns c = put_here c.requires c.if-at-ge-SLOTS.false
