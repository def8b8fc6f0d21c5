-- `table::set_word` meets its contract.
use mathlib.Core.Path.{sym}
use borrow.Author.Rules.{rules}
use Rattle.table.specs.Words.{wset, wset_out}
use Rattle.table.proofs.set_word.Goals as goal

pub returns-else-at-part : goal.returns-else-at-part
returns-else-at-part c = sym (wset_out _ _ _ c.if-at-part.false)

pub returns-then-at-part : goal.returns-then-at-part
unfolding wset
returns-then-at-part c = search rules
