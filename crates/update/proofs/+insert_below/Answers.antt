-- `update::insert_below` meets its contract, by recursion on the limit.
use Rattle.update.specs.CodeUpdates.{inserted_none, inserted_step}
use Rattle.update.proofs.+insert_below.Goals as goal

pub returns-then-limit-eq0 : goal.returns-then-limit-eq0
returns-then-limit-eq0 t c = inserted_none c.if-h-le-MOST_SLOTS.false c.if-limit-eq0.true

pub returns : goal.returns
returns t c = inserted_step c.if-h-le-MOST_SLOTS.false c.inner_slot-m.ensures c.at_most-side.ensures c.lower_on.ensures
    (c.insert_below-g.ensures) c.rebuild.ensures
