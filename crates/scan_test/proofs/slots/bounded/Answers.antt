-- `scan_test::slots::bounded` meets its contract.
use Rattle.std.proofs.Common.{to_z-of_z}
use Rattle.offers.specs.Bounded.{bounded_below, bounded_over, bounded_inside}
use Rattle.scan_test.proofs.slots.bounded.Goals as goal

pub returns-then-value-low : goal.returns-then-value-low
returns-then-value-low c =
    let f = c.ranges in
    bounded_below _ _ _ (simp (to_z-of_z, f.low, f.value) at c.if-value-low.true)

pub returns-then-high-value : goal.returns-then-high-value
returns-then-high-value c =
    let f = c.ranges in
    bounded_over _ _ _ (simp (to_z-of_z, f.low, f.value) at c.if-value-low.false) (simp (to_z-of_z, f.high, f.value) at c.if-high-value.true)

pub returns : goal.returns
returns c =
    let f = c.ranges in
    simp (to_z-of_z, f.value)
    (bounded_inside _ _ _ (simp (to_z-of_z, f.low, f.value) at c.if-value-low.false) (simp (to_z-of_z, f.high, f.value) at c.if-high-value.false))
