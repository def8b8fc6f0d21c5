-- `table::word_at` meets its contract.
use mathlib.Core.Path.{sym}
use borrow.Author.Rules.{rules}
use Rattle.table.specs.Words.{word, word_out}
use Rattle.table.proofs.word_at.Goals as goal

pub returns : goal.returns
returns c = sym (word_out _ _ c.if-at-part.false)

pub returns-then-at-part : goal.returns-then-at-part
unfolding word
returns-then-at-part c = search rules
