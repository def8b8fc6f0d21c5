-- `search::choose` meets its contract: each of its answers is one of the machine's cases.
use mathlib.Core.Path.{sym, ◌∙◌}
use Rattle.search.specs.Choices.{chooses_mine, chooses_theirs, chooses_done, chooses_on}
use borrow.Author.Rules.{rules}
use Rattle.search.proofs.choose.Goals as goal

pub returns-then-above : goal.returns-then-above
returns-then-above c = chooses_mine c.point-p.ensures c.point-q.ensures
    (sym c.above.ensures ∙ c.if-above.true) (rw c.top.ensures at c.recede.ensures)

pub returns-then-above-2 : goal.returns-then-above-2
returns-then-above-2 c = chooses_theirs c.point-p.ensures c.point-q.ensures
    (sym c.above.ensures ∙ c.if-above.false) (sym c.above-2.ensures ∙ c.if-above-2.true)
    (rw c.top-then-above-2.ensures at c.recede-then-above-2.ensures)

pub returns-then-both_leaves : goal.returns-then-both_leaves
returns-then-both_leaves c = chooses_done c.point-p.ensures c.point-q.ensures (sym c.above.ensures ∙ c.if-above.false)
    (sym c.above-2.ensures ∙ c.if-above-2.false) (sym c.both_leaves.ensures ∙ c.if-both_leaves.true)

pub returns : goal.returns
returns c = chooses_on c.point-p.ensures c.point-q.ensures (sym c.above.ensures ∙ c.if-above.false)
    (sym c.above-2.ensures ∙ c.if-above-2.false) (sym c.both_leaves.ensures ∙ c.if-both_leaves.false)
