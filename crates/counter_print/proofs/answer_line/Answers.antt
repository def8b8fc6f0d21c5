-- `counter_print::answer_line` meets its contract: each call writes its columns and leaves the others.
use Rattle.std.proofs.Common.{◌≡◌, ◌∙◌, length, arith, to_z-of_z}
use Rattle.std.proofs.Math.ListN.{length-set}
use Rattle.counter_print.specs.Printing.{answers}
use Rattle.counter_print.proofs.answer_line.Goals as goal

pub returns : goal.returns
returns c =
    let f = c.ranges in
    let long : length c.put_number-4.new.out ≡ length c.args.out.now =
    simp length-set at (c.put_number-4.auto.out ∙ c.put_number-3.auto.out ∙ c.put_number-2.auto.out ∙ c.put_number.auto.out) in
    answers _ _ _ _ _ _ _ _ _ _ c.requires (omega arith)
    (simp (to_z-of_z, f.refusal) at c.put_number.ensures)
    (simp (to_z-of_z, f.offer) at c.put_number-2.ensures)
    (simp (to_z-of_z, f.value) at c.put_number-3.ensures)
    (simp (to_z-of_z, f.second) at c.put_number-4.ensures)
