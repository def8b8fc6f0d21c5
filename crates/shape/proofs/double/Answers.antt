-- `shape::double` meets its contract.
use Rattle.shape.specs.Rotations.{doubled_leaf, doubled_node}
use borrow.Author.Rules.{rules}
use Rattle.shape.proofs.double.Goals as goal

pub returns-then-m-le-MOST_SLOTS : goal.returns-then-m-le-MOST_SLOTS
returns-then-m-le-MOST_SLOTS c = doubled_leaf c.if-m-le-MOST_SLOTS.true c.hang.ensures

pub returns : goal.returns
returns c = doubled_node c.if-m-le-MOST_SLOTS.false c.child-a.ensures c.child-b.ensures c.inner_slot-gap.ensures
    c.make_node-y.ensures c.hang-2.ensures
