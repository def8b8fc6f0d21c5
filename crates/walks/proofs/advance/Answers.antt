-- `walks::advance` meets its contract.
use Rattle.walks.specs.Actions.{advances_leaf, advances_full, advances_node}
use borrow.Author.Rules.{rules}
use Rattle.walks.proofs.advance.Goals as goal

pub returns-then-at-le-MOST_SLOTS : goal.returns-then-at-le-MOST_SLOTS
returns-then-at-le-MOST_SLOTS c = advances_leaf c.if-at-le-MOST_SLOTS.true

pub returns-then-depth-ge-STACK : goal.returns-then-depth-ge-STACK
returns-then-depth-ge-STACK c = advances_full c.if-at-le-MOST_SLOTS.false c.if-depth-ge-STACK.true

pub returns : goal.returns
returns c = advances_node c.if-at-le-MOST_SLOTS.false c.if-depth-ge-STACK.false c.child.ensures
