-- `check_trees::fill` meets its contract, by recursion on the limit.
use Rattle.check_trees.specs.Fills.{fills_as}
use Rattle.check_trees.specs.FillWalks.{fills_deep, fills_left_not, fills_right_not, fills_node}
use Rattle.check_trees.proofs.+fill.Goals as goal

pub returns-then-x-le-MOST_SLOTS : goal.returns-then-x-le-MOST_SLOTS
returns-then-x-le-MOST_SLOTS t c = c.fill_leaf.ensures c.if-x-le-MOST_SLOTS.true _ _

pub returns-then-limit-eq0 : goal.returns-then-limit-eq0
returns-then-limit-eq0 t c = fills_deep c.if-x-le-MOST_SLOTS.false c.if-limit-eq0.true

pub returns-in_err-a : goal.returns-in_err-a
returns-in_err-a t c =
    rw c.from_residual.ensures (fills_left_not c.if-x-le-MOST_SLOTS.false c.if-limit-eq0.false (fills_as c.child-left.ensures c.in_err-a.ensures))

pub returns-in_err-b : goal.returns-in_err-b
returns-in_err-b t c =
    rw c.from_residual-in_err-b.ensures (fills_right_not c.if-x-le-MOST_SLOTS.false c.if-limit-eq0.false (fills_as c.child-left.ensures c.in_ok-a.ensures)
    (fills_as c.child-right.ensures c.in_err-b.ensures))

pub returns : goal.returns
returns t c = fills_node c.if-x-le-MOST_SLOTS.false c.if-limit-eq0.false (fills_as c.child-left.ensures c.in_ok-a.ensures)
    (fills_as c.child-right.ensures c.in_ok-b.ensures) c.cover.ensures
