-- `spreading::behind` meets its contract: a test for the last one, and the way down on the right of the node between.
use Rattle.spreading.specs.Neighbours.{on_its_right}
use Rattle.spreading.proofs.behind.Goals as goal

pub returns : goal.returns
returns c = on_its_right c.if-s-last.false c.child_field.ensures c.link_in-right.ensures c.end_in.ensures
