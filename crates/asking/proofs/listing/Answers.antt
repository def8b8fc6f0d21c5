-- `asking::listing` meets its contract: by its guard, and then what the part shows.
use Rattle.asking.specs.Showing.{listing_no_book, listing_done}
use Rattle.asking.proofs.listing.Goals as goal

pub returns-then-no_book : goal.returns-then-no_book
returns-then-no_book c = listing_no_book c.args.start c.args.table.now c.args.out.now c.no_book.ensures
    c.if-no_book.true

pub returns : goal.returns
returns c = listing_done c.args.start c.args.table.now c.args.out.now c.no_book.ensures c.if-no_book.false
    c.show.ensures
