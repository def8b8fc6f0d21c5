-- `chart::mark` meets its contract: by its guard, and then the part's mark.
use mir.Facts.{to_z-of_z}
use Rattle.chart.specs.Marking.{mark_no_book}
use Rattle.chart.proofs.Marking.{mark_there}
use Rattle.chart.proofs.mark.Goals as goal

pub returns-then-no_book : goal.returns-then-no_book
returns-then-no_book c = mark_no_book c.args.start c.args.table.now c.args.index c.no_book.ensures
    c.if-no_book.true

pub returns : goal.returns
returns c = mark_there c.args.start c.args.table.now c.args.index c.no_book.ensures c.if-no_book.false
    (simp (to_z-of_z, c.ranges.index) at c.part_mark.ensures)
