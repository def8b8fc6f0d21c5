-- `shape::splice` meets its contract, by recursion on the limit.
use borrow.Author.Rules.{rules}
use native.Mathlib.Omega.{arith}
use mathlib.Core.Path.{sym, ◌∙◌}
use Rattle.table.specs.Rep.{height_read, within_cap}
use Rattle.nodes.specs.Joining.{raised}
use Rattle.shape.specs.Splices.{spliced_none, spliced_low, spliced, towers_told}
use Prim.Native.Nat.{ℕ, ◌<◌}
use Rattle.shape.proofs.+splice.Goals as goal

pub returns-then-limit-eq0 : goal.returns-then-limit-eq0
returns-then-limit-eq0 t c = spliced_none c.if-limit-eq0.true c.make_node.ensures

pub above-requires : goal.above-requires
above-requires t c = omega (arith, height_read _ _ _ c.height_in-hq.ensures)

pub balance-requires : goal.balance-requires
balance-requires t c = c.requires ∙ sym (within_cap c.splice-y.ensures.within)

pub returns-then-above : goal.returns-then-above
returns-then-above t c = spliced (towers_told _ _ _ _ c.height_in-hp.ensures c.height_in-hq.ensures c.above.ensures) c.if-above.true
    c.child_in-a.ensures c.child_in-m.ensures c.inner_slot-g.ensures c.splice-y.ensures
    c.balance.ensures

pub height_over-requires : goal.height_over-requires
height_over-requires t c = (omega (arith, height_read _ _ _ c.height_in-hp.ensures), omega (arith, height_read _ _ _ c.height_in-hq.ensures))

pub returns : goal.returns
returns t c = spliced_low (towers_told _ _ _ _ c.height_in-hp.ensures c.height_in-hq.ensures c.above.ensures) c.if-above.false
    (raised c.height_in-hp.ensures c.height_in-hq.ensures c.height_over.ensures c.set_node.ensures)
