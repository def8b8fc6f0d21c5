-- `prices::kept_in` meets its contract: by its test.
use mathlib.Core.Path.{sym}
use borrow.Author.Rules.{rules}
use Rattle.prices.specs.Prices.{kept_leaf, kept_inner}
use Rattle.prices.proofs.kept_in.Goals as goal

pub returns-then-x-le-MOST_SLOTS : goal.returns-then-x-le-MOST_SLOTS
returns-then-x-le-MOST_SLOTS c = sym (kept_leaf _ c.if-x-le-MOST_SLOTS.true)

pub returns : goal.returns
returns c = sym (kept_inner _ c.if-x-le-MOST_SLOTS.false)
