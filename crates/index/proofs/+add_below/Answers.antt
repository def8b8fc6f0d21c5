-- `index::add_below` meets its contract, by recursion on the limit.
use mir.Facts.{to_z-of_z}
use Rattle.descents.specs.Cuts.{still_known}
use Rattle.index.specs.Growing.{grown_behind, grown_before, grown_over, grown_right, grown_left}
use Rattle.index.proofs.+add_below.Goals as goal

pub returns-then-at_least_in : goal.returns-then-at_least_in
returns-then-at_least_in t c = grown_behind _ c.if-x-le-MOST_SLOTS.true (simp (to_z-of_z, c.ranges.key) at c.at_least_in.ensures) c.if-at_least_in.true
    c.join_in.ensures

pub returns-then-x-le-MOST_SLOTS : goal.returns-then-x-le-MOST_SLOTS
returns-then-x-le-MOST_SLOTS t c = grown_before _ c.if-x-le-MOST_SLOTS.true (simp (to_z-of_z, c.ranges.key) at c.at_least_in.ensures) c.if-at_least_in.false
    c.join_in-then-x-le-MOST_SLOTS.ensures

pub returns-then-limit-eq0 : goal.returns-then-limit-eq0
returns-then-limit-eq0 t c = grown_over _ c.if-x-le-MOST_SLOTS.false c.if-limit-eq0.true

pub join_in-requires-then-at_least_in-2 : goal.join_in-requires-then-at_least_in-2
join_in-requires-then-at_least_in-2 t c = still_known c.requires (c.add_below-more.ensures.within)

pub returns-then-at_least_in-2 : goal.returns-then-at_least_in-2
returns-then-at_least_in-2 t c = grown_right _ c.if-x-le-MOST_SLOTS.false c.inner_slot-gap.ensures (simp (to_z-of_z, c.ranges.key) at c.at_least_in-2.ensures)
    c.child_in-l.ensures c.child_in-r.ensures c.if-at_least_in-2.true (simp (to_z-of_z, c.ranges.key) at (c.add_below-more.ensures))
    c.join_in-then-at_least_in-2.ensures

pub join_in-requires-2 : goal.join_in-requires-2
join_in-requires-2 t c = still_known c.requires (c.add_below-more-2.ensures.within)

pub returns : goal.returns
returns t c = grown_left _ c.if-x-le-MOST_SLOTS.false c.inner_slot-gap.ensures (simp (to_z-of_z, c.ranges.key) at c.at_least_in-2.ensures)
    c.child_in-l.ensures c.child_in-r.ensures c.if-at_least_in-2.false (simp (to_z-of_z, c.ranges.key) at (c.add_below-more-2.ensures))
    c.join_in-2.ensures
