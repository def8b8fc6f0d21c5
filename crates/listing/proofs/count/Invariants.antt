-- `listing::count` meets its contract. The loop's invariant: the n-th of the pieces is in slot s, and no tree has more than there are slots.
use Prim.Native.Nat.{◌<◌, ◌≤◌}
use Rattle.listing.specs.PieceCounts.{Along, Counted}
use Rattle.table.specs.Fields.{most_slots}
use Rattle.listing.proofs.count.Given as goal

abbrev pub invariant-loop-n : goal.invariant-loop-n
invariant-loop-n l = (l.n ≤ most_slots → Along l.part l.root l.last l.s l.n) × (most_slots < l.n → Counted l.part l.root 0)
