-- `query::descend` meets its contract. The loop's invariant: from x on, the walk goes on as from the root.
use Rattle.query.specs.Descent.{Ongoing}
use Rattle.query.proofs.descend.Given as goal

abbrev pub invariant-loop-probes : goal.invariant-loop-probes
invariant-loop-probes l = Ongoing l.part l.root l.load l.x l.second l.probes
