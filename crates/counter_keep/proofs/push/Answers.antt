-- `counter_keep::push` meets its contract: the byte goes behind those that are kept, or is passed over.
use Rattle.counter_keep.specs.KeptBytes.{pushes_full, pushes_one}
use Rattle.counter_keep.proofs.push.Goals as goal

pub returns-then-at-ge28 : goal.returns-then-at-ge28
returns-then-at-ge28 c = pushes_full _ _ c.if-at-ge28.true

pub returns : goal.returns
returns c = pushes_one _ _ c.if-at-ge28.false
