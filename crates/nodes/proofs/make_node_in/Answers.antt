-- `nodes::make_node_in` meets its contract.
use native.Mathlib.Omega.{arith}
use Rattle.table.specs.Rep.{height_read}
use Rattle.nodes.specs.Joining.{raised}
use borrow.Author.Rules.{rules}
use Rattle.nodes.proofs.make_node_in.Goals as goal

pub height_over-requires : goal.height_over-requires
height_over-requires c = (
  omega (arith, height_read _ _ _ c.height_in-hp.ensures),
  omega (arith, height_read _ _ _ c.height_in-hq.ensures),
)
