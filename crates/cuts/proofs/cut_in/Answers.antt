-- `cuts::cut_in` meets its contract.
use Rattle.cuts.specs.LeastRate.{cut_by}
use mir.Facts.{to_z-of_z}
use mir.Syntax.{w64}
use Rattle.std.proofs.Common.{FitsSigned}
use borrow.Author.Rules.{rules}
use Rattle.cuts.proofs.cut_in.Goals as goal

pub returns : goal.returns
returns c = let f : FitsSigned w64 c.least_rate-least.result = record { sfits = c.least_rate-least.type_inv } in
    cut_by _ _ (simp (to_z-of_z, c.ranges.rate) at c.least_rate-least.ensures) (simp (to_z-of_z, f) at c.split_in.ensures)
