-- `memory::empty` meets its contract: two words written one after the other.
use Rattle.memory.specs.Entries.{emptying}
use Rattle.memory.proofs.empty.Goals as goal

pub returns : goal.returns
returns c = emptying c.set_number.ensures c.set_number-2.ensures
