-- `check_numbers::sought` meets its contract: what has the slot's number in the tree is in that slot, or there is none.
use mir.Facts.{to_z-of_z}
use Rattle.std.proofs.Common.{FitsSigned}
use mir.Syntax.{w64}
use Rattle.check_numbers.specs.Seeking.{seeks}
use Rattle.check_numbers.proofs.sought.Goals as goal

pub returns : goal.returns
returns c = let f : FitsSigned w64 c.get.result = record { sfits = c.get.type_inv } in
    seeks c.get.ensures (simp (to_z-of_z, f) at c.find.ensures)
