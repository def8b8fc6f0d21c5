-- `promises::no_book` meets its contract: by the capacity that the words from `start` on tell.
use Rattle.promises.specs.LentPart.{cap_tells}
use Rattle.promises.proofs.no_book.Goals as goal

pub returns-else-table-start : goal.returns-else-table-start
returns-else-table-start c = cap_tells c.args.table.now c.args.start c.capacity.ensures
