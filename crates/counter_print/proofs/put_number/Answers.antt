-- `counter_print::put_number` meets its contract: the column's text stands between the bytes that stay.
use Rattle.std.proofs.Common.{to_z-of_z}
use Rattle.counter_print.specs.Printing.{puts_part}
use Rattle.counter_print.proofs.put_number.Goals as goal

pub returns : goal.returns
returns c =
    let f = c.ranges.value in
    puts_part _ _ _ _ _ c.requires c.justify.auto.column (simp (to_z-of_z, f) at c.justify.ensures)
