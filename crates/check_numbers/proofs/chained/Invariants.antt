-- `check_numbers::chained` meets its contract: the chain is there exactly where what is left of it is there.
use Prim.Native.Nat.{◌-◌}
use Rattle.check_numbers.specs.FreeChains.{Left}
use Rattle.check_numbers.proofs.chained.Given as goal

abbrev pub invariant-loop : goal.invariant-loop
invariant-loop l = Left l.part l.first l.count l.s (l.count - l.counter)
