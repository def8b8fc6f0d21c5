-- `check_offers::walk` meets its contract, by recursion on the limit.
use Rattle.check_offers.specs.OfferWalks.{walks_as, walks_deep, walks_left_not, walks_right_not, walks_node}
use Rattle.check_offers.proofs.+walk.Goals as goal

pub returns-then-x-le-MOST_SLOTS : goal.returns-then-x-le-MOST_SLOTS
returns-then-x-le-MOST_SLOTS t c = c.single.ensures c.if-x-le-MOST_SLOTS.true _ _

pub returns-then-limit-eq0 : goal.returns-then-limit-eq0
returns-then-limit-eq0 t c = walks_deep c.if-x-le-MOST_SLOTS.false c.if-limit-eq0.true

pub returns-in_err-mid : goal.returns-in_err-mid
returns-in_err-mid t c =
    rw c.from_residual.ensures (walks_left_not c.if-x-le-MOST_SLOTS.false c.if-limit-eq0.false (walks_as c.child-left.ensures c.in_err-mid.ensures))

pub returns-in_err-to : goal.returns-in_err-to
returns-in_err-to t c =
    rw c.from_residual-in_err-to.ensures (walks_right_not c.if-x-le-MOST_SLOTS.false c.if-limit-eq0.false (walks_as c.child-left.ensures c.in_ok-mid.ensures)
    (walks_as c.child-right.ensures c.in_err-to.ensures))

pub returns : goal.returns
returns t c = walks_node c.if-x-le-MOST_SLOTS.false c.if-limit-eq0.false (walks_as c.child-left.ensures c.in_ok-mid.ensures)
    (walks_as c.child-right.ensures c.in_ok-to.ensures) c.merge.ensures
