-- `check_order::all_ranked` meets its contract: so far every rank is its offer's.
use Prim.Native.Nat.{◌+◌}
use Rattle.check_trees.specs.Deciding.{Every}
use Rattle.check_order.specs.Ranked.{RankedHere}
use Rattle.check_order.proofs.all_ranked.Given as goal

abbrev pub invariant-loop-slot : goal.invariant-loop-slot
invariant-loop-slot l = Every (RankedHere l.part l.scratch) l.from (l.from + l.slot-index)
