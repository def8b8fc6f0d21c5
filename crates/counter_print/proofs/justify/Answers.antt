-- `counter_print::justify` meets its contract: the sign in the columns before the digits, and the digits in the rest.
use Rattle.std.proofs.Common.{◌≡◌, ℕ, ◌-◌, ◌≤◌, List, length, drop, arith, length-take, length-drop, to_z-of_z}
use Rattle.counter_print.specs.Printing.{justifies_narrow, justifies_wide}
use Rattle.counter_print.proofs.justify.Goals as goal

pub returns-then-width-count : goal.returns-then-width-count
returns-then-width-count c =
    let f = c.ranges.value in
    justifies_narrow _ _ _ _ _ (simp (to_z-of_z, f) at c.unsigned_abs-number.ensures.value) c.digit_count-count.ensures
    (simp (to_z-of_z, f) at c.if-width-count.true)

pub returns : goal.returns
returns c =
    let f = c.ranges.value in
    let count : ℕ = c.digit_count-count.result in
    let before : List ℕ = c.args.column.now in
    let fits : count ≤ length before = omega arith in
    let front_length : length c.put_sign.new.column ≡ length before - count = omega (arith, simp length-take at c.put_sign.auto.column) in
    let rest_length : length (drop (length before - count) before) ≡ count = rw length-drop (omega arith) in
    justifies_wide (length before - count) c.put_sign.new.column (drop (length before - count) before) front_length _ _ _ _ _
    (simp (to_z-of_z, f) at c.unsigned_abs-number.ensures.value)
    c.digit_count-count.ensures
    (omega arith)
    rest_length
    (simp (to_z-of_z, f) at c.put_sign.ensures)
    c.put_digits.ensures
