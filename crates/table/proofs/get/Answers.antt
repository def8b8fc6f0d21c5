-- `table::get` meets its contract.
use mathlib.Core.Path.{◌∙◌, ap}
use mir.Facts.{to_z-of_z}
use mir.Syntax.{w64}
use Rattle.std.proofs.Common.{FitsSigned}
use Rattle.table.specs.Words.{word}
use Rattle.table.specs.Layout.{cell}
use borrow.Author.Rules.{rules}
use Rattle.table.proofs.get.Goals as goal

pub returns : goal.returns
unfolding cell
returns c = let f : FitsSigned w64 c.word_at.result = record { sfits = c.word_at.type_inv } in
    simp (to_z-of_z, f) (c.word_at.ensures ∙ ap (word _) c.spot.ensures)
