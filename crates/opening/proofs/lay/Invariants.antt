-- `opening::lay` meets its contract. The loop's invariant: the slots below `n` are laid.
use Prim.Native.Nat.{◌-◌}
use Rattle.opening.specs.Starting.{Laying}
use Rattle.opening.proofs.lay.Given as goal

abbrev pub invariant-loop-n : goal.invariant-loop-n
invariant-loop-n l = Laying l.capacity (l.n - 1) l.initial.part l.part
