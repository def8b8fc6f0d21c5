-- `check_trees::cover` meets its contract.
use mathlib.Core.Path.{◌∙◌, sym}
use Rattle.std.proofs.Common.{arith}
use Rattle.check_trees.specs.Fills.{covers}
use Rattle.check_trees.proofs.cover.Goals as goal

pub returns : goal.returns
returns c = covers c.inner_slot.ensures (sym c.entry-last.ensures ∙ c.if-last-inner_slot.false) (omega arith) (omega arith)
    c.height-height.ensures c.height_over.ensures c.if-height-height_over.false
