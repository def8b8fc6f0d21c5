-- `chart::slot_of` meets its contract. The loop's invariant: the piece of the counter is in slot s.
use Rattle.chart.specs.ChartWalks.{Going}
use Rattle.chart.proofs.slot_of.Given as goal

abbrev pub invariant-loop : goal.invariant-loop
invariant-loop l = Going l.part l.root l.i l.s l.counter
