-- `update::remove_below` meets its contract, by recursion on the limit.
use Rattle.update.specs.CodeUpdates.{removed_none, removed_single, removed_emptied, removed_step}
use Rattle.update.proofs.+remove_below.Goals as goal

pub returns-then-h-le-MOST_SLOTS : goal.returns-then-h-le-MOST_SLOTS
returns-then-h-le-MOST_SLOTS t c = removed_single c.if-h-le-MOST_SLOTS.true c.alone.ensures

pub returns-then-limit-eq0 : goal.returns-then-limit-eq0
returns-then-limit-eq0 t c = removed_none c.if-h-le-MOST_SLOTS.false c.if-limit-eq0.true

pub returns-then-g-eq0 : goal.returns-then-g-eq0
returns-then-g-eq0 t c = removed_emptied c.if-h-le-MOST_SLOTS.false c.inner_slot-m.ensures c.is_less-side.ensures c.lower_on.ensures
    (c.remove_below-g.ensures) c.if-g-eq0.true

pub returns : goal.returns
returns t c = removed_step c.if-h-le-MOST_SLOTS.false c.inner_slot-m.ensures c.is_less-side.ensures c.lower_on.ensures
    (c.remove_below-g.ensures) c.if-g-eq0.false c.seam_after-gap.ensures c.rebuild.ensures
