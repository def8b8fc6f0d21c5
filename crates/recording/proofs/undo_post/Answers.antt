-- `recording::undo_post` meets its contract: by the search for the number, a withdrawal, and an entry less.
use mathlib.Core.Path.{refl, ap}
use Rattle.std.specs.Prelude.{Ok}
use mir.Facts.{to_z-of_z}
use Rattle.recording.specs.Undoing.{undo_missing, undo_post}
use Rattle.recording.proofs.undo_post.Goals as goal

pub returns-then-s-lt1 : goal.returns-then-s-lt1
returns-then-s-lt1 c = let f = c.ranges in
    undo_missing _ (simp (to_z-of_z, f.number) at c.live_slot-s.ensures) c.if-s-lt1.true refl

pub returns : goal.returns
returns c = let f = c.ranges in
    undo_post _ (simp (to_z-of_z, f.number) at c.live_slot-s.ensures) c.if-s-lt1.false
    (simp (to_z-of_z, f.number) at c.withdraw_part-told.ensures) c.forget.ensures (ap Ok c.done.ensures)
