-- `shape::hang` meets its contract.
use Rattle.shape.specs.Rows.{rowed}
use borrow.Author.Rules.{rules}
use Rattle.shape.proofs.hang.Goals as goal

pub returns : goal.returns
returns c = rowed c.make_node-y.ensures c.make_node.ensures
