-- `recording::undo_withdrawal` meets its contract: by the tests of a post, a post, and an entry less.
use mathlib.Core.Path.{refl, ap}
use Rattle.std.specs.Prelude.{Ok}
use mir.Facts.{to_z-of_z}
use Rattle.recording.specs.Undoing.{undo_range, undo_cause, undo_withdrawal}
use Rattle.recording.proofs.undo_withdrawal.Goals.{then-is_err-via-then-is_err, then-is_err-via-else-is_err+then-is_err-2}
use Rattle.recording.proofs.undo_withdrawal.Goals as goal

pub returns-then-is_err : goal.returns-then-is_err
returns-then-is_err c = let f = c.ranges in
    let range = simp (to_z-of_z, f.number, f.rate, f.base) at c.range_cause.ensures in
    elim c.then-is_err.branch [
      | then-is_err-via-then-is_err w ↦ undo_range _ _ _ range c.is_err.ensures.value w.if-is_err.true refl
      | then-is_err-via-else-is_err+then-is_err-2 w ↦ undo_cause _ _ _ range c.is_err.ensures.value w.if-is_err.false
          (simp (to_z-of_z, f.number) at w.post_cause.ensures) w.is_err-else-is_err.ensures.value w.if-is_err-2.true refl
    ]

pub returns : goal.returns
returns c = let f = c.ranges in
    undo_withdrawal _ _ _ (simp (to_z-of_z, f.number, f.rate, f.base) at c.range_cause.ensures) c.is_err.ensures.value c.if-is_err.false
    (simp (to_z-of_z, f.number) at c.post_cause.ensures) c.is_err-else-is_err.ensures.value c.if-is_err-2.false
    (simp (to_z-of_z, f.number, f.rate, f.base) at c.post_part-told.ensures) c.forget.ensures (ap Ok c.done.ensures)
