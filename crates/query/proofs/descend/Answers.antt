-- `query::descend` meets its contract. The loop's invariant: from x on, the walk goes on as from the root.
use mir.Facts.{to_z-of_z}
use Rattle.query.specs.Descent.{no_slots, ongoing_start, ongoing_step, ongoing_leaf, ongoing_over}
use Rattle.query.proofs.Descent.{ongoing_off}
use Rattle.query.proofs.descend.Goals as goal

pub returns-then-c-lt1 : goal.returns-then-c-lt1
returns-then-c-lt1 c = no_slots c.capacity-c.ensures c.if-c-lt1.true _ _ _ _ _

pub loop-probes-init : goal.loop-probes-init
loop-probes-init c = ongoing_start _ _ _

pub returns-then-x-le-LEAVES : goal.returns-then-x-le-LEAVES
returns-then-x-le-LEAVES c = rw c.kept_else.ensures (simp (to_z-of_z, c.ranges.load) at (ongoing_leaf c.loop-probes.invariant c.if-x-le-LEAVES.true))

pub returns-in_default : goal.returns-in_default
returns-in_default c = let r = c.astray-in_default.result in
    simp (to_z-of_z, c.ranges.load) at
    (ongoing_off c.loop-probes.invariant c.if-x-le-LEAVES.false (rw c.in_default.is at c.toward.ensures) r.slot r.second r.probes)

pub loop-probes-preserved : goal.loop-probes-preserved
loop-probes-preserved c = ongoing_step c.loop-probes.invariant c.if-x-le-LEAVES.false (rw c.in-Some.is at c.toward.ensures)

pub returns : goal.returns
returns c = let r = c.astray-2.result in
    simp (to_z-of_z, c.ranges.load) at (ongoing_over c.loop-probes.invariant c.loop-probes-test.false r.slot r.second r.probes)
