-- `shape::join_in` meets its contract.
use native.Mathlib.Omega.{arith}
use Rattle.table.specs.Rep.{height_read}
use Rattle.nodes.specs.Joining.{raised}
use Rattle.shape.specs.Splices.{towers_told}
use Rattle.shape.specs.JoinSteps.{merged_right, merged_left, merged_one, merged_other, merged_level}
use borrow.Author.Rules.{rules}
use Rattle.shape.proofs.join_in.Goals as goal

pub returns-then-l-eq0 : goal.returns-then-l-eq0
returns-then-l-eq0 c = merged_right c.if-l-eq0.true

pub returns-then-r-eq0 : goal.returns-then-r-eq0
returns-then-r-eq0 c = merged_left c.if-r-eq0.true

pub above-requires : goal.above-requires
above-requires c = omega (arith, height_read _ _ _ c.height_in-hr.ensures)

pub returns-then-above : goal.returns-then-above
returns-then-above c = merged_one c.if-l-eq0.false c.if-r-eq0.false (omega arith)
    (towers_told _ _ _ _ c.height_in-hl.ensures c.height_in-hr.ensures c.above.ensures) c.if-above.true
    c.splice.ensures

pub above-requires-2 : goal.above-requires-2
above-requires-2 c = omega (arith, height_read _ _ _ c.height_in-hl.ensures)

pub returns-then-above-2 : goal.returns-then-above-2
returns-then-above-2 c = merged_other c.if-l-eq0.false c.if-r-eq0.false (omega arith)
    (towers_told _ _ _ _ c.height_in-hl.ensures c.height_in-hr.ensures c.above.ensures) c.if-above.false
    (towers_told _ _ _ _ c.height_in-hr.ensures c.height_in-hl.ensures c.above-2.ensures) c.if-above-2.true
    c.splice-then-above-2.ensures

pub height_over-requires : goal.height_over-requires
height_over-requires c = (omega (arith, height_read _ _ _ c.height_in-hl.ensures), omega (arith, height_read _ _ _ c.height_in-hr.ensures))

pub returns : goal.returns
returns c = merged_level c.if-l-eq0.false c.if-r-eq0.false
    (towers_told _ _ _ _ c.height_in-hl.ensures c.height_in-hr.ensures c.above.ensures) c.if-above.false
    (towers_told _ _ _ _ c.height_in-hr.ensures c.height_in-hl.ensures c.above-2.ensures) c.if-above-2.false
    (raised c.height_in-hl.ensures c.height_in-hr.ensures c.height_over.ensures c.set_node.ensures)
