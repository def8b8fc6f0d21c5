-- `shape::rotate` meets its contract.
use mathlib.Core.Bool.{true, false}
use borrow.Author.Tests.{le-leb, lt-leb}
use Rattle.shape.specs.Rotations.{rotated_leaf, rotated}
use borrow.Author.Rules.{rules}
use Rattle.shape.proofs.rotate.Goals as goal

pub returns-then-p-le-MOST_SLOTS : goal.returns-then-p-le-MOST_SLOTS
returns-then-p-le-MOST_SLOTS c = rotated_leaf c.if-p-le-MOST_SLOTS.true c.make_node.ensures

pub returns-then-height : goal.returns-then-height
returns-then-height c = rotated true c.if-p-le-MOST_SLOTS.false c.child-a.ensures c.child-m.ensures c.inner_slot-near.ensures
    c.height-2.ensures c.height.ensures (le-leb _ _ c.if-height.true) c.hang.ensures

pub returns : goal.returns
returns c = rotated false c.if-p-le-MOST_SLOTS.false c.child-a.ensures c.child-m.ensures c.inner_slot-near.ensures
    c.height-2.ensures c.height.ensures (lt-leb _ _ c.if-height.false) c.double.ensures
