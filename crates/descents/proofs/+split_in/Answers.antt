-- `descents::split_in` meets its contract, by recursion on the limit.
use mathlib.Core.Bool.{true, false}
use mir.Facts.{to_z-of_z}
use Rattle.descents.specs.Cuts.{halved_leaf, halved_over, whole_right, whole_left, halved_right, halved_left}
use Rattle.descents.proofs.+split_in.Goals as goal

pub returns-then-at_least_in : goal.returns-then-at_least_in
returns-then-at_least_in t c = halved_leaf _ true c.if-x-le-MOST_SLOTS.true (simp (to_z-of_z, c.ranges.least) at c.at_least_in.ensures)
    c.if-at_least_in.true

pub returns-then-x-le-MOST_SLOTS : goal.returns-then-x-le-MOST_SLOTS
returns-then-x-le-MOST_SLOTS t c = halved_leaf _ false c.if-x-le-MOST_SLOTS.true (simp (to_z-of_z, c.ranges.least) at c.at_least_in.ensures)
    c.if-at_least_in.false

pub returns-then-limit-eq0 : goal.returns-then-limit-eq0
returns-then-limit-eq0 t c = halved_over _ c.if-x-le-MOST_SLOTS.false c.if-limit-eq0.true

pub returns-then-back-eq0 : goal.returns-then-back-eq0
returns-then-back-eq0 t c = whole_right _ c.if-x-le-MOST_SLOTS.false c.inner_slot-gap.ensures (simp (to_z-of_z, c.ranges.least) at c.at_least_in-2.ensures)
    c.if-at_least_in-2.true c.child_in-r.ensures
    (simp (to_z-of_z, c.ranges.least) at c.split_in-front.ensures) c.if-back-eq0.true

pub returns-then-at_least_in-2 : goal.returns-then-at_least_in-2
returns-then-at_least_in-2 t c = halved_right _ c.if-x-le-MOST_SLOTS.false c.inner_slot-gap.ensures (simp (to_z-of_z, c.ranges.least) at c.at_least_in-2.ensures)
    c.if-at_least_in-2.true c.child_in-r.ensures (simp (to_z-of_z, c.ranges.least) at c.split_in-front.ensures)
    c.if-back-eq0.false c.child_in-l.ensures c.join_in-y.ensures

pub returns-then-front-eq0 : goal.returns-then-front-eq0
returns-then-front-eq0 t c = whole_left _ c.if-x-le-MOST_SLOTS.false c.inner_slot-gap.ensures (simp (to_z-of_z, c.ranges.least) at c.at_least_in-2.ensures)
    c.if-at_least_in-2.false c.child_in-l-2.ensures
    (simp (to_z-of_z, c.ranges.least) at c.split_in-front-2.ensures) c.if-front-eq0.true

pub returns : goal.returns
returns t c = halved_left _ c.if-x-le-MOST_SLOTS.false c.inner_slot-gap.ensures (simp (to_z-of_z, c.ranges.least) at c.at_least_in-2.ensures)
    c.if-at_least_in-2.false c.child_in-l-2.ensures c.child_in-r-2.ensures
    (simp (to_z-of_z, c.ranges.least) at c.split_in-front-2.ensures)
    c.if-front-eq0.false c.join_in-y-2.ensures
