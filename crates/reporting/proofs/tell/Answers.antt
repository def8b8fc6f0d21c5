-- `reporting::tell` meets its contract: by what was counted and written.
use mathlib.Core.Path.{◌≡◌}
use native.Mathlib.Omega.{arith}
use lib.IntN.{pos}
use mir.Syntax.{w64}
use mir.Val.{to_z}
use mir.Facts.{to_z-of_z, to_z_pos}
use Rattle.reporting.specs.Telling.{told_short, told_all_lem}
use Rattle.reporting.proofs.tell.Goals as goal

pub returns-then-room-n : goal.returns-then-room-n
returns-then-room-n c = let fits = c.ranges in
    told_short (simp (to_z-of_z, fits.load, fits.price) at c.write_under-n.ensures) c.if-room-n.true

pub returns : goal.returns
returns c = let fits = c.ranges in
    let n : to_z w64 c.write_under-n.result ≡ pos c.write_under-n.result =
    to_z_pos w64 (omega (arith, c.write_under-n.ensures.few)) in
    simp n (told_all_lem (simp (to_z-of_z, fits.load, fits.price) at c.write_under-n.ensures) c.if-room-n.false)
