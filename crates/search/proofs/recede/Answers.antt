-- `search::recede` meets its contract: each of its answers is one line of case 1, or of its mirror image.
use mathlib.Core.Path.{sym, ◌∙◌}
use Rattle.search.specs.Choices.{recedes_bottom, recedes_leaf, recedes_mine, recedes_theirs, recedes_neither}
use borrow.Author.Rules.{rules}
use Rattle.search.proofs.recede.Goals as goal

pub returns-then-t-lt1 : goal.returns-then-t-lt1
returns-then-t-lt1 c = recedes_bottom c.pair.ensures c.if-t-lt1.true

pub returns-then-x-le-MOST_SLOTS : goal.returns-then-x-le-MOST_SLOTS
returns-then-x-le-MOST_SLOTS c = recedes_leaf c.if-t-lt1.false c.pair-then-x-le-MOST_SLOTS.ensures c.if-x-le-MOST_SLOTS.true

pub returns-then-above : goal.returns-then-above
returns-then-above c = recedes_mine c.if-t-lt1.false c.if-x-le-MOST_SLOTS.false c.inner_slot.ensures c.pair-then-above.ensures
    (sym c.above.ensures ∙ c.if-above.true)

pub returns-then-above-2 : goal.returns-then-above-2
returns-then-above-2 c = recedes_theirs c.if-t-lt1.false c.if-x-le-MOST_SLOTS.false c.inner_slot.ensures (sym c.above.ensures ∙ c.if-above.false)
    c.pair-then-above-2.ensures (sym c.above-2.ensures ∙ c.if-above-2.true)

pub returns : goal.returns
returns c = recedes_neither c.if-t-lt1.false c.if-x-le-MOST_SLOTS.false c.inner_slot.ensures (sym c.above.ensures ∙ c.if-above.false)
    c.pair-2.ensures (sym c.above-2.ensures ∙ c.if-above-2.false)
