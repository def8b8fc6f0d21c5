-- `check_order::order` meets its contract.
use mathlib.Core.Path.{refl}
use borrow.Author.Tests.{eq-eqb, ne_eqb}
use Rattle.check_trees.specs.Deciding.{decides_equal, decides_also, decides_stops}
use Rattle.check_order.specs.OrderWays.{order_no_header, order_none, order_no_heads, order_all}
use Rattle.check_order.proofs.order.Goals as goal

pub returns-then-not-header : goal.returns-then-not-header
returns-then-not-header c = order_no_header c.number_at-root.ensures c.header.ensures c.if-not-header.true

pub returns-then-n-eq0 : goal.returns-then-n-eq0
returns-then-n-eq0 c = order_none c.number_at-root.ensures c.header.ensures c.if-not-header.false c.if-root-eq0.true
    (decides_also (decides_equal _ _) (eq-eqb _ _ c.if-n-eq0.true) (decides_equal _ _) refl)

pub returns-else-n-eq0 : goal.returns-else-n-eq0
returns-else-n-eq0 c = order_none c.number_at-root.ensures c.header.ensures c.if-not-header.false c.if-root-eq0.true
    (decides_stops (decides_equal _ _) (ne_eqb _ _ c.if-n-eq0.false) refl)

pub returns-then-not-heads : goal.returns-then-not-heads
returns-then-not-heads c = order_no_heads c.number_at-root.ensures c.header.ensures c.if-not-header.false c.if-root-eq0.false c.requires.0
    c.order_tree.ensures c.if-not-order_tree.false c.heads.ensures c.if-not-heads.true

pub returns : goal.returns
returns c = order_all c.number_at-root.ensures c.header.ensures c.if-not-header.false c.if-root-eq0.false c.requires.0
    c.order_tree.ensures c.if-not-order_tree.false c.heads.ensures c.if-not-heads.false c.shift.ensures
