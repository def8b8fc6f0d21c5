-- `index::add` meets its contract: the first item's leaf, or one added on the way to its key.
use mir.Facts.{to_z-of_z}
use mir.Syntax.{w64}
use Rattle.std.proofs.Common.{FitsSigned}
use Rattle.index.specs.Adding.{added_first, added_below}
use Rattle.index.proofs.add.Goals as goal

pub returns-then-root-eq0 : goal.returns-then-root-eq0
returns-then-root-eq0 c = added_first c.if-root-eq0.true

pub returns : goal.returns
returns c = let f : FitsSigned w64 c.get_in-key.result = record { sfits = c.get_in-key.type_inv } in
    added_below c.if-root-eq0.false c.get_in-key.ensures (simp (to_z-of_z, f) at c.add_below.ensures)
