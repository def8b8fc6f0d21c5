-- `search::meet` meets its contract. The loop's invariant: the state stands for the machine's after as many steps.
use Rattle.search.specs.Runs.{Going}
use Rattle.search.proofs.meet.Given as goal

abbrev pub invariant-loop-before : goal.invariant-loop-before
invariant-loop-before l = Going l.left l.right l.l l.r l.s l.before
