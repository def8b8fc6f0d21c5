-- `replay::run` meets its contract. The loop's invariant: what is done so far makes, with what is left, the whole.
use Prim.Native.Nat.{◌*◌, ◌-◌}
use lib.ListN.{length}
use Rattle.replay.specs.Running.{Going}
use Rattle.replay.proofs.run.Given as goal

abbrev pub invariant-loop-start : goal.invariant-loop-start
invariant-loop-start l = Going l.start l.initial.table l.table l.calls l.initial.answers l.answers l.n l.at

abbrev pub decreases-loop-start : goal.decreases-loop-start
decreases-loop-start l = length l.calls - 4 * l.n
