-- `asking::query` meets its contract: by its guards, and then the answer on the part.
use mir.Facts.{to_z-of_z}
use Rattle.asking.specs.Asking.{queries_none, queries_range, queries_asked}
use Rattle.asking.proofs.query.Goals as goal

pub returns-then-no_book : goal.returns-then-no_book
returns-then-no_book c = queries_none c.args.load c.args.table.now c.args.start c.no_book.ensures
    c.if-no_book.true

pub returns-then-outside : goal.returns-then-outside
returns-then-outside c = queries_range c.args.load c.args.table.now c.args.start c.no_book.ensures c.if-no_book.false
    (simp (to_z-of_z, c.ranges.load) at c.outside.ensures) c.if-outside.true

pub returns : goal.returns
returns c = queries_asked c.args.load c.args.table.now c.args.start c.no_book.ensures c.if-no_book.false
    (simp (to_z-of_z, c.ranges.load) at c.outside.ensures) c.if-outside.false (simp (to_z-of_z, c.ranges.load) at c.ask.ensures)
