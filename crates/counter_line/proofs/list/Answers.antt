-- `counter_line::list` meets its contract: the listing's promise, and the lines of its answer.
use mathlib.Core.Path.{refl}
use Rattle.counter_line.specs.Answering.{lists_lines}
use Rattle.counter_line.proofs.list.Goals as goal

pub returns : goal.returns
returns c = lists_lines refl c.listing-told.ensures c.listed_lines.ensures
