-- `counter_print::put_sign` meets its contract: all columns are blank, and the last one takes the minus where there is one.
use Rattle.std.proofs.Common.{rules, ◌<◌, length}
use Rattle.counter_print.specs.Printing.{signed_blank, signed_minus}
use Rattle.counter_print.proofs.put_sign.Goals as goal

pub returns-then-minus : goal.returns-then-minus
returns-then-minus c =
    let room : 0 < length c.args.column.now = rw c.if-minus.true at c.requires in
    rw c.if-minus.true (signed_minus (length c.args.column.now) c.fill.new.self (search rules) room)

pub returns-else-minus : goal.returns-else-minus
returns-else-minus c = rw c.if-minus.false (signed_blank (length c.args.column.now) c.fill.new.self (search rules))
