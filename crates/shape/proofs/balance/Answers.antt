-- `shape::balance` meets its contract.
use native.Mathlib.Omega.{arith}
use Rattle.table.specs.Rep.{height_read}
use Rattle.nodes.specs.Joining.{raised}
use Rattle.shape.specs.Balance.{balanced_one, balanced_other, balanced_level}
use borrow.Author.Rules.{rules}
use Rattle.shape.proofs.balance.Goals as goal

pub overflow_add-hq : goal.overflow_add-hq
overflow_add-hq c = omega (arith, height_read _ _ _ c.height_in-hq.ensures)

pub returns-then-hp-hq : goal.returns-then-hp-hq
returns-then-hp-hq c = balanced_one c.height_in-hp.ensures c.height_in-hq.ensures c.if-hp-hq.true c.rotate.ensures

pub overflow_add-hp : goal.overflow_add-hp
overflow_add-hp c = omega (arith, height_read _ _ _ c.height_in-hp.ensures)

pub returns-then-hq-hp : goal.returns-then-hq-hp
returns-then-hq-hp c = balanced_other c.height_in-hp.ensures c.height_in-hq.ensures c.if-hp-hq.false c.if-hq-hp.true
    c.rotate-then-hq-hp.ensures

pub height_over-requires : goal.height_over-requires
height_over-requires c = (omega (arith, height_read _ _ _ c.height_in-hp.ensures), omega (arith, height_read _ _ _ c.height_in-hq.ensures))

pub returns : goal.returns
returns c = balanced_level c.height_in-hp.ensures c.height_in-hq.ensures c.if-hp-hq.false c.if-hq-hp.false
    (raised c.height_in-hp.ensures c.height_in-hq.ensures c.height_over.ensures c.set_node.ensures)
