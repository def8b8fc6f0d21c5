-- `declining::post_cause` meets its contract: by its search and the live count.
use mir.Facts.{to_z-of_z}
use Rattle.declining.specs.PartCauses.{cause_number, cause_full, cause_none}
use Rattle.declining.proofs.post_cause.Goals as goal

pub returns-then-live_slot-gt0 : goal.returns-then-live_slot-gt0
returns-then-live_slot-gt0 c = cause_number _ _ (simp (to_z-of_z, c.ranges.number) at c.live_slot.ensures) c.if-live_slot-gt0.true

pub returns-then-capacity-n : goal.returns-then-capacity-n
returns-then-capacity-n c = cause_full _ _ (simp (to_z-of_z, c.ranges.number) at c.live_slot.ensures) c.if-live_slot-gt0.false
    c.number_at-n.ensures c.capacity.ensures c.if-capacity-n.true

pub returns : goal.returns
returns c = cause_none _ _ (simp (to_z-of_z, c.ranges.number) at c.live_slot.ensures) c.if-live_slot-gt0.false
    c.number_at-n.ensures c.capacity.ensures c.if-capacity-n.false
