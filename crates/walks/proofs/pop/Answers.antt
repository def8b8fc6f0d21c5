-- `walks::pop` meets its contract.
use Rattle.walks.specs.Actions.{pops_none, pops_node}
use borrow.Author.Rules.{rules}
use Rattle.walks.proofs.pop.Goals as goal

pub returns : goal.returns
returns c = pops_node c.child.ensures
