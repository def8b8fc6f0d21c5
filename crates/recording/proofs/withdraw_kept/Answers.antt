-- `recording::withdraw_kept` meets its contract: the offer read, then withdrawn, and an entry more.
use mir.Syntax.{w64}
use Rattle.std.proofs.Common.{FitsSigned}
use mir.Facts.{to_z-of_z}
use Rattle.recording.specs.Undoing.{withdraw_kept}
use Rattle.recording.proofs.withdraw_kept.Goals as goal

pub returns : goal.returns
returns c = let f = c.ranges in
    let r : FitsSigned w64 c.get-rate.result = record { sfits = c.get-rate.type_inv } in
    let z : FitsSigned w64 c.get-base.result = record { sfits = c.get-base.type_inv } in
    withdraw_kept _ _ _ c.get-rate.ensures c.get-base.ensures (simp (to_z-of_z, f.number) at c.withdraw_part-told.ensures)
    (simp (to_z-of_z, f.number, r, z) at c.remember.ensures) c.done.ensures
