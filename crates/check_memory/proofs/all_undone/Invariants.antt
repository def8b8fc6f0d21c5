-- `check_memory::all_undone` meets its contract: all can be undone exactly where what is left can.
use Prim.Native.Nat.{◌+◌, ◌-◌, ◌≤◌, ◌<◌}
use Rattle.plain.specs.Book.{most_remembered}
use Rattle.table.specs.Fields.{most_slots}
use Rattle.check_memory.specs.Walks.{Going}
use Rattle.check_memory.proofs.all_undone.Given as goal

abbrev pub invariant-loop : goal.invariant-loop
invariant-loop l =
    (l.i < most_remembered) × (l.left ≤ most_slots + l.counter)
    × Going l.part l.initial.live l.room l.last l.count l.live l.left l.i (l.count - l.counter)
