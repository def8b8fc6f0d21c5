-- `opening::start_book` meets its contract: the header, then the slots, and then the memory.
use Rattle.opening.specs.Starting.{starts}
use Rattle.opening.proofs.start_book.Goals as goal

pub returns : goal.returns
returns c = let p = c.requires in starts p.0 p.1 p.2 c.begin.ensures c.lay.ensures c.empty.ensures
