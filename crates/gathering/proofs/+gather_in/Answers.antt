-- `gathering::gather_in` meets its contract, by recursion on the limit.
use mathlib.Core.Path.{refl}
use mir.Facts.{to_z-of_z}
use Rattle.gathering.specs.Gathers.{gathers_none, gathers_put, gathers_deep, gathers_node}
use Rattle.gathering.proofs.+gather_in.Goals as goal

pub returns-then-not-is_below : goal.returns-then-not-is_below
returns-then-not-is_below t c = gathers_none (simp (to_z-of_z, c.ranges.load, c.ranges.price) at c.is_below.ensures) c.if-not-is_below.true

pub returns-then-x-le-MOST_SLOTS : goal.returns-then-x-le-MOST_SLOTS
returns-then-x-le-MOST_SLOTS t c = gathers_put c.if-at-gt-SLOTS.false c.if-x-le-MOST_SLOTS.true (simp (to_z-of_z, c.ranges.load, c.ranges.price) at c.is_below.ensures)
    c.if-not-is_below.false c.put.ensures

pub returns-then-limit-eq0 : goal.returns-then-limit-eq0
returns-then-limit-eq0 t c = gathers_deep c.if-at-gt-SLOTS.false c.if-x-le-MOST_SLOTS.false c.if-limit-eq0.true

pub returns : goal.returns
returns t c = gathers_node c.if-x-le-MOST_SLOTS.false c.if-limit-eq0.false (simp (to_z-of_z, c.ranges.load, c.ranges.price) at c.is_below.ensures)
    c.if-not-is_below.false c.child_in-left.ensures ((simp (to_z-of_z, c.ranges.load) at c.child_cheapest-f.ensures).left refl)
    (simp (to_z-of_z, c.ranges.load, c.ranges.price) at c.gather_in-mid.ensures) c.child_in-right.ensures
    ((simp (to_z-of_z, c.ranges.load) at c.child_cheapest-g.ensures).right refl) (simp (to_z-of_z, c.ranges.load, c.ranges.price) at c.gather_in.ensures)
