-- `reading::place_after` meets its contract: by its guard, and then the part's next place.
use Rattle.reading.specs.PartReading.{after_no_book}
use Rattle.reading.proofs.place_after.Goals as goal

pub returns-then-no_book : goal.returns-then-no_book
returns-then-no_book c = after_no_book c.args.start c.args.table.now c.no_book.ensures c.if-no_book.true
    c.args.place
