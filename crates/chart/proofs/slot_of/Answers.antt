-- `chart::slot_of` meets its contract. The loop's invariant: the piece of the counter is in slot s.
use Rattle.chart.specs.ChartWalks.{going_begins, going_on}
use Rattle.chart.proofs.slot_of.Goals as goal

pub loop-init : goal.loop-init
loop-init c = going_begins _ c.end-s.ensures

pub loop-preserved : goal.loop-preserved
loop-preserved c = going_on c.loop.invariant c.loop-test.true c.link-s.ensures
