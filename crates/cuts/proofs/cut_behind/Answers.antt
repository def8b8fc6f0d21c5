-- `cuts::cut_behind` meets its contract.
use Rattle.cuts.specs.KnownEnds.{behind_last, behind_cut}
use mir.Facts.{to_z-of_z}
use mir.Syntax.{w64}
use Rattle.std.proofs.Common.{FitsSigned}
use borrow.Author.Rules.{rules}
use Rattle.cuts.proofs.cut_behind.Goals as goal

pub returns-then-u-s : goal.returns-then-u-s
returns-then-u-s c = behind_last c.if-u-s.true

pub returns : goal.returns
returns c = let f : FitsSigned w64 c.get_in-rate.result = record { sfits = c.get_in-rate.type_inv } in
    behind_cut c.get_in-rate.ensures (simp (to_z-of_z, f) at c.cut_in.ensures)
