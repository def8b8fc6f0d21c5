-- `reading::piece_at` meets its contract: by its guard, and then what stands in the part.
use Rattle.reading.specs.PartReading.{hands_no_book, hands_there}
use Rattle.reading.proofs.piece_at.Goals as goal

pub returns-then-no_book : goal.returns-then-no_book
returns-then-no_book c = hands_no_book c.args.start c.args.table.now c.no_book.ensures c.if-no_book.true
    c.args.place

pub returns : goal.returns
returns c = hands_there c.args.start c.args.table.now c.no_book.ensures c.if-no_book.false c.part_piece.ensures
