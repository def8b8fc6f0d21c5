-- `check_numbers::number_tree` meets its contract.
use Rattle.check_numbers.specs.NumberTrees.{trees_not_filled, trees_not_long, trees_not_falling, trees_rest}
use Rattle.check_numbers.proofs.number_tree.Goals as goal

pub returns-in_default : goal.returns-in_default
returns-in_default c = trees_not_filled c.requires c.in_default.ensures

pub returns-then-next-n : goal.returns-then-next-n
returns-then-next-n c = trees_not_long c.requires c.in-Some.ensures c.if-next-n.true

pub returns-then-not-falling : goal.returns-then-not-falling
returns-then-not-falling c = trees_not_falling c.requires c.in-Some.ensures c.falling.ensures c.if-not-falling.true

pub returns : goal.returns
returns c = trees_rest c.requires c.in-Some.ensures c.falling.ensures c.if-not-falling.false c.if-next-n.false c.all_sought.ensures
