-- `descents::end_in` meets its contract: each step of the way down goes to the child on the side.
use borrow.Author.Rules.{rules}
use Rattle.descents.specs.Ends.{going_begins, going_down}
use Rattle.descents.proofs.end_in.Goals as goal

pub returns : goal.returns
returns c = going_down (λ u z s. search rules) (going_begins _ _ _ _) c.leaf_below.ensures
