-- `index::drop_key` meets its contract.
use mir.Facts.{to_z-of_z}
use mir.Syntax.{w64}
use Rattle.std.proofs.Common.{FitsSigned}
use Rattle.index.specs.Dropping.{dropped}
use Rattle.index.proofs.drop_key.Goals as goal

pub returns : goal.returns
returns c = let f = c.ranges.key in
    let g : FitsSigned w64 c.least_above-least.result = record { sfits = c.least_above-least.type_inv } in
    dropped (simp (to_z-of_z, f) at c.least_above-least.ensures) (simp (to_z-of_z, g) at c.drop_below.ensures)
