-- `counter_print::put_digits` meets its contract: a digit more is written, and at the end no place is left.
use Rattle.std.proofs.Common.{arith}
use Rattle.counter_print.specs.Places.{place_power, putting_more, putting_done}
use Rattle.counter_print.proofs.put_digits.Goals as goal

pub loop-at-preserved : goal.loop-at-preserved
loop-at-preserved c =
    putting_more c.loop-at.invariant c.loop-at.auto.column c.loop-at-test.true (place_power _ c.requires.0 _ (omega arith)) c.lead_digit-lead.ensures

pub returns : goal.returns
returns c = putting_done c.loop-at.invariant c.loop-at-test.false c.loop-at.auto.column
