-- `reading::first_place` meets its contract: by its guard, and then the part's first place.
use Rattle.reading.specs.PartReading.{first_no_book}
use Rattle.reading.proofs.first_place.Goals as goal

pub returns-then-no_book : goal.returns-then-no_book
returns-then-no_book c = first_no_book c.args.start c.args.table.now c.no_book.ensures c.if-no_book.true
