-- `recording::take_back_part` meets its contract: by what the last entry tells.
use mathlib.Core.Path.{refl}
use native.Mathlib.Omega.{arith}
use mir.Facts.{to_z-of_z}
use Rattle.recording.specs.Undoing.{takes_post, takes_withdrawal, takes_nothing}
use Rattle.recording.proofs.take_back_part.Goals as goal

pub returns-in-1 : goal.returns-in-1
returns-in-1 c = let e = c.last-last in takes_post e.ensures c.in-1.is (simp (to_z-of_z, e.ensures.fits.0) at c.undo_post.ensures)

pub returns-in-2 : goal.returns-in-2
returns-in-2 c = let e = c.last-last in
    let f = e.ensures.fits in
    takes_withdrawal e.ensures c.in-2.is (simp (to_z-of_z, f.0, f.1, f.2) at c.undo_withdrawal.ensures)

pub returns-in_default : goal.returns-in_default
returns-in_default c = takes_nothing c.last-last.ensures (λ e. omega arith) (λ e. omega arith) refl refl
