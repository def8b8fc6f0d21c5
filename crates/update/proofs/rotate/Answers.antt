-- `update::rotate` meets its contract.
use Rattle.update.specs.CodeSteps.{read_le, read_lt}
use Rattle.update.specs.Rotating.{rotated_once, rotated_twice}
use Rattle.update.proofs.rotate.Goals as goal

pub returns-then-height : goal.returns-then-height
returns-then-height c = rotated_once c.lower_on.ensures
    (read_le c.height.ensures c.height-2.ensures c.if-height.true)
    c.raise_on-near.ensures c.inner_slot-m.ensures c.raise_on-top.ensures c.add.ensures

pub returns : goal.returns
returns c = rotated_twice c.lower_on.ensures
    (read_lt c.height-2.ensures c.height.ensures c.if-height.false)
    c.lower_on-inner.ensures c.inner_slot-m.ensures c.raise_on-far.ensures c.raise_on-near-2.ensures c.inner_slot.ensures
    c.raise_on-top-2.ensures c.add-2.ensures c.add-3.ensures
