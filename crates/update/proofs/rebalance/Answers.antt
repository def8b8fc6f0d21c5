-- `update::rebalance` meets its contract.
use Rattle.std.proofs.Common.{arith}
use Rattle.table.specs.Fields.{offer_tree}
use Rattle.table.specs.Rep.{height_read}
use Rattle.shape.specs.Splices.{towers_told}
use Rattle.update.specs.CodeSteps.{tall_left_lem, tall_right_lem, none_tall}
use Rattle.update.proofs.rebalance.Goals as goal

pub above-requires : goal.above-requires
above-requires c = omega (arith, height_read _ offer_tree c.args.r.tree c.height_in-hr.ensures)

pub returns-then-above : goal.returns-then-above
returns-then-above c = let a = c.args in
    let l = a.l.tree in
    let r = a.r.tree in
    tall_left_lem (towers_told _ offer_tree l r c.height_in-hl.ensures c.height_in-hr.ensures c.above.ensures)
    c.if-above.true c.rotate.ensures

pub above-requires-2 : goal.above-requires-2
above-requires-2 c = omega (arith, height_read _ offer_tree c.args.l.tree c.height_in-hl.ensures)

pub returns-then-above-2 : goal.returns-then-above-2
returns-then-above-2 c = let a = c.args in
    let l = a.l.tree in
    let r = a.r.tree in
    tall_right_lem (towers_told _ offer_tree r l c.height_in-hr.ensures c.height_in-hl.ensures c.above-2.ensures)
    c.if-above-2.true c.rotate-then-above-2.ensures

pub returns : goal.returns
returns c = let a = c.args in
    let l = a.l.tree in
    let r = a.r.tree in
    none_tall (towers_told _ offer_tree l r c.height_in-hl.ensures c.height_in-hr.ensures c.above.ensures) c.if-above.false
    (towers_told _ offer_tree r l c.height_in-hr.ensures c.height_in-hl.ensures c.above-2.ensures) c.if-above-2.false
    c.raise.ensures
