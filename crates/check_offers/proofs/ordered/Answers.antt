-- `check_offers::ordered` meets its contract.
use Rattle.check_offers.specs.Orders.{orders_not_filled, orders_not_ranged, orders_rest}
use Rattle.check_offers.proofs.ordered.Goals as goal

pub returns-in_default : goal.returns-in_default
returns-in_default c = orders_not_filled c.in_default.ensures

pub returns-then-not-all_ranged : goal.returns-then-not-all_ranged
returns-then-not-all_ranged c = orders_not_ranged c.in-Some.ensures c.all_ranged.ensures c.if-not-all_ranged.true

pub returns : goal.returns
returns c = orders_rest c.in-Some.ensures c.all_ranged.ensures c.if-not-all_ranged.false c.falling.ensures
