-- `check_order::order_tree` meets its contract.
use Rattle.check_order.specs.OrderTrees.{trees_not_filled, trees_not_long, trees_not_ranged, trees_not_ranked, trees_rest}
use Rattle.check_order.proofs.order_tree.Goals as goal

pub returns-in_default : goal.returns-in_default
returns-in_default c = trees_not_filled c.requires c.in_default.ensures

pub returns-then-next-n : goal.returns-then-next-n
returns-then-next-n c = trees_not_long c.requires c.in-Some.ensures c.if-next-n.true

pub returns-then-not-all_ranged : goal.returns-then-not-all_ranged
returns-then-not-all_ranged c = trees_not_ranged c.requires c.in-Some.ensures c.if-next-n.false c.all_ranged.ensures c.if-not-all_ranged.true

pub returns-then-not-all_ranked : goal.returns-then-not-all_ranked
returns-then-not-all_ranked c = trees_not_ranked c.requires c.in-Some.ensures c.if-next-n.false c.all_ranged.ensures c.if-not-all_ranged.false
    c.all_ranked.ensures c.if-not-all_ranked.true

pub returns : goal.returns
returns c = trees_rest c.requires c.in-Some.ensures c.if-next-n.false c.all_ranged.ensures c.if-not-all_ranged.false c.all_ranked.ensures
    c.if-not-all_ranked.false c.falling.ensures
