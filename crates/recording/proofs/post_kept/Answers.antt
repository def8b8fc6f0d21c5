-- `recording::post_kept` meets its contract: an offer posted, and an entry more.
use mir.Facts.{to_z-of_z}
use Rattle.recording.specs.Undoing.{post_kept}
use Rattle.recording.proofs.post_kept.Goals as goal

pub returns : goal.returns
returns c = let f = c.ranges in
    post_kept _ (simp (to_z-of_z, f.number, f.rate, f.base) at c.post_part-told.ensures)
    (simp (to_z-of_z, f.number, f.rate, f.base) at c.remember.ensures) c.done.ensures
