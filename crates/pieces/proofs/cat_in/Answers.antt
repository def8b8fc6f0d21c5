-- `pieces::cat_in` meets its contract.
use Rattle.pieces.proofs.Catting.{catted_right, catted_left, catted}
use borrow.Author.Rules.{rules}
use Rattle.pieces.proofs.cat_in.Goals as goal

pub returns-then-l-eq0 : goal.returns-then-l-eq0
returns-then-l-eq0 c = catted_right c.if-l-eq0.true

pub returns-then-r-eq0 : goal.returns-then-r-eq0
returns-then-r-eq0 c = catted_left c.if-r-eq0.true
