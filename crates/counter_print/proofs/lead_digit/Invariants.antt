-- `counter_print::lead_digit` meets its contract. The loop's invariant: of the multiples tried the power goes in as often as nine less those that did not.
use Rattle.counter_print.specs.Places.{Passed}
use Rattle.counter_print.proofs.lead_digit.Given as goal

abbrev pub invariant-loop-times : goal.invariant-loop-times
invariant-loop-times l = Passed l.number l.power l.digit l.times
