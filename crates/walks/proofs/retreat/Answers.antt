-- `walks::retreat` meets its contract.
use Rattle.walks.specs.Actions.{retreats_leaf, retreats_node}
use borrow.Author.Rules.{rules}
use Rattle.walks.proofs.retreat.Goals as goal

pub returns-then-at-le-MOST_SLOTS : goal.returns-then-at-le-MOST_SLOTS
returns-then-at-le-MOST_SLOTS c = retreats_leaf c.if-at-le-MOST_SLOTS.true

pub returns : goal.returns
returns c = retreats_node c.if-at-le-MOST_SLOTS.false c.child.ensures
