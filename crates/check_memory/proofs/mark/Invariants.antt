-- `check_memory::mark` meets its contract: the flags of the slots so far are raised.
use Rattle.check_memory.specs.Flags.{Marking}
use Rattle.check_memory.proofs.mark.Given as goal

abbrev pub invariant-loop-slot : goal.invariant-loop-slot
invariant-loop-slot l = Marking l.part l.scratch l.slot-index l.initial.live l.live
