-- `spreading::spread` meets its contract. The loops' invariant: the slots of those below in front of the one in hand are put.
use Prim.Native.Nat.{◌-◌}
use Rattle.std.proofs.Common.{get_or}
use Rattle.table.specs.Fields.{most_slots}
use Rattle.spreading.specs.Spreads.{Spreading}
use Rattle.spreading.proofs.spread.Given as goal

-- the next first of a rate is in hand
abbrev pub invariant-loop-first : goal.invariant-loop-first
invariant-loop-first l = Spreading l.part l.load l.price l.firsts l.fn.all l.all l.n l.first-index l.m (get_or l.firsts l.first-index 0)

abbrev pub invariant-loop-m : goal.invariant-loop-m
invariant-loop-m l = Spreading l.part l.load l.price l.firsts l.fn.all l.all l.n l.first-index l.m l.s

-- each turn puts one slot
abbrev pub decreases-loop-m : goal.decreases-loop-m
decreases-loop-m l = most_slots - l.m
