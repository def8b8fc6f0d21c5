-- `walks::act` meets its contract: action by action.
use Rattle.walks.specs.Actions.{acts_stay, acts_retreat, acts_advance, acts_pop}
use borrow.Author.Rules.{rules}
use Rattle.walks.proofs.act.Goals as goal

pub returns-in-Stay : goal.returns-in-Stay
returns-in-Stay c = acts_stay c.in-Stay.is
