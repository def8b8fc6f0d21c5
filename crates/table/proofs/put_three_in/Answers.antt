-- `table::put_three_in` meets its contract: a write into a slot moves no place.
use mir.Facts.{to_z-of_z}
use Rattle.table.specs.Layout.{three_written}
use borrow.Author.Rules.{rules}
use Rattle.table.proofs.put_three_in.Goals as goal

pub returns : goal.returns
returns c = let f = c.ranges in
    three_written _ _ _ _ _ _ _ _ _ _ _ _ _ _
    c.spot_in-x.ensures
    c.spot_in-y.ensures
    c.spot_in-z.ensures
    (simp (to_z-of_z, f.first) at c.set_word.ensures)
    (simp (to_z-of_z, f.second) at c.set_word-2.ensures)
    (simp (to_z-of_z, f.third) at c.set_word-3.ensures)
