-- `counter_print::put_digits` meets its contract. The loop's invariant: the digits written, and those of what is left, are the number's.
use Rattle.counter_print.specs.Places.{Putting}
use Rattle.counter_print.proofs.put_digits.Given as goal

abbrev pub invariant-loop-at : goal.invariant-loop-at
invariant-loop-at l = Putting l.number l.initial.column l.column l.at l.rest
