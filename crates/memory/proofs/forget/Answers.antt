-- `memory::forget` meets its contract: two words written one after the other.
use Rattle.memory.specs.Entries.{forgetting}
use Rattle.memory.proofs.forget.Goals as goal

pub returns : goal.returns
returns c = forgetting c.number_at-last.ensures c.before-previous.ensures c.number_at-count.ensures c.saturating_sub-less.ensures
    c.set_number.ensures c.set_number-2.ensures
