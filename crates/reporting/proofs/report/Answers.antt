-- `reporting::report` meets its contract: by its guards, and then what the part tells.
use mir.Facts.{to_z-of_z}
use Rattle.reporting.specs.Telling.{report_no_book, report_price, report_load, report_told}
use Rattle.reporting.proofs.report.Goals as goal

pub returns-then-no_book : goal.returns-then-no_book
returns-then-no_book c = let args = c.args in
    report_no_book _ _ args.start args.table.now args.out.now c.no_book.ensures c.if-no_book.true

pub returns-then-outside : goal.returns-then-outside
returns-then-outside c = let args = c.args in
    let fits = c.ranges in
    report_price _ _ args.start args.table.now args.out.now c.no_book.ensures c.if-no_book.false
    (simp (to_z-of_z, fits.price) at c.outside.ensures) c.if-outside.true

pub returns-then-outside-2 : goal.returns-then-outside-2
returns-then-outside-2 c = let args = c.args in
    let fits = c.ranges in
    report_load _ _ args.start args.table.now args.out.now c.no_book.ensures c.if-no_book.false
    (simp (to_z-of_z, fits.price) at c.outside.ensures) c.if-outside.false
    (simp (to_z-of_z, fits.load) at c.outside-2.ensures) c.if-outside-2.true

pub returns : goal.returns
returns c = let args = c.args in
    let fits = c.ranges in
    report_told _ _ args.start args.table.now args.out.now c.no_book.ensures c.if-no_book.false
    (simp (to_z-of_z, fits.price) at c.outside.ensures) c.if-outside.false
    (simp (to_z-of_z, fits.load) at c.outside-2.ensures) c.if-outside-2.false
    (simp (to_z-of_z, fits.load, fits.price) at c.tell.ensures)
