-- `index::drop_below` meets its contract, by recursion on the limit.
use mir.Facts.{to_z-of_z}
use Rattle.descents.specs.Cuts.{still_known}
use Rattle.index.specs.Thinning.{thinned_leaf, thinned_over, thinned_right, thinned_left}
use Rattle.index.proofs.+drop_below.Goals as goal

pub returns-then-x-le-MOST_SLOTS : goal.returns-then-x-le-MOST_SLOTS
returns-then-x-le-MOST_SLOTS t c = thinned_leaf _ c.if-x-le-MOST_SLOTS.true

pub returns-then-limit-eq0 : goal.returns-then-limit-eq0
returns-then-limit-eq0 t c = thinned_over _ c.if-x-le-MOST_SLOTS.false c.if-limit-eq0.true

pub join_in-requires : goal.join_in-requires
join_in-requires t c = still_known c.requires c.drop_below-y.ensures.within

pub returns-then-at_least_in : goal.returns-then-at_least_in
returns-then-at_least_in t c = thinned_right _ c.if-x-le-MOST_SLOTS.false c.inner_slot-gap.ensures (simp (to_z-of_z, c.ranges.least) at c.at_least_in.ensures)
    c.child_in-l.ensures c.child_in-r.ensures (c.if-at_least_in.true)
    (simp (to_z-of_z, c.ranges.least) at (c.drop_below-y.ensures)) c.join_in.ensures

pub end_in-last-requires : goal.end_in-last-requires
end_in-last-requires t c = still_known c.requires c.drop_below-y-2.ensures.within

pub join_in-requires-2 : goal.join_in-requires-2
join_in-requires-2 t c = still_known c.requires c.drop_below-y-2.ensures.within

pub returns : goal.returns
returns t c = thinned_left _ c.if-x-le-MOST_SLOTS.false c.inner_slot-gap.ensures (simp (to_z-of_z, c.ranges.least) at c.at_least_in.ensures)
    c.child_in-l.ensures c.child_in-r.ensures (c.if-at_least_in.false)
    (simp (to_z-of_z, c.ranges.least) at (c.drop_below-y-2.ensures)) c.end_in-last.ensures c.join_in-2.ensures
