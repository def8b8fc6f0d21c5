-- `check_order::heads` meets its contract: what is left to compare decides the whole.
use Prim.Native.Nat.{◌≤◌}
use Rattle.check_order.specs.Heads.{Ongoing}
use Rattle.check_order.proofs.heads.Given as goal

abbrev pub invariant-loop-s : goal.invariant-loop-s
invariant-loop-s l = (l.j ≤ l.m) × Ongoing l.part l.scratch l.m l.n l.j l.s-index l.last
