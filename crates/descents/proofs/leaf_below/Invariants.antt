-- `descents::leaf_below` meets its contract. The invariant: what the steps that are left lead to is what all lead to.
use Rattle.table.specs.Fields.{most_levels}
use Rattle.descents.specs.Downs.{Downward}
use Rattle.descents.proofs.leaf_below.Given as goal

abbrev pub invariant-loop : goal.invariant-loop
invariant-loop g l = Downward (goal.F-post g l.child) most_levels l.x l.counter l.y
