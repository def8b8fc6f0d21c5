-- `check_part::check` meets its contract.
use Rattle.promises.specs.Checking.{checks_none}
use Rattle.check_part.proofs.check.Goals as goal

pub returns-then-no_book : goal.returns-then-no_book
returns-then-no_book c = checks_none c.args.table.now c.args.start c.no_book.ensures c.if-no_book.true
