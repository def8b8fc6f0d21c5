-- `table::put` meets its contract.
use mir.Facts.{to_z-of_z}
use Rattle.table.specs.Layout.{written_at}
use borrow.Author.Rules.{rules}
use Rattle.table.proofs.put.Goals as goal

pub returns : goal.returns
returns c = let v = c.ranges.value in written_at _ _ _ _ _ _ c.spot-at.ensures (simp (to_z-of_z, v) at c.set_word.ensures)
