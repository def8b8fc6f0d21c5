-- `filing::withdraw_part` meets its contract: the reads and writes of a withdrawal, in the order of the code.
use mir.Facts.{to_z-of_z}
use mir.Syntax.{w64}
use Rattle.std.proofs.Common.{FitsSigned}
use Rattle.filing.specs.PartUpdates.{withdraw_short, withdrawn_part}
use Rattle.filing.proofs.withdraw_part.Goals as goal

pub returns-then-part-lt-LEAST_PART : goal.returns-then-part-lt-LEAST_PART
returns-then-part-lt-LEAST_PART c = withdraw_short _ _ c.if-part-lt-LEAST_PART.true

pub returns : goal.returns
returns c = let r : FitsSigned w64 c.get.result = record { sfits = c.get.type_inv } in
    let k : FitsSigned w64 c.get-rank.result = record { sfits = c.get-rank.type_inv } in
    withdrawn_part _ c.roots-held.ensures c.number_at-n.ensures c.get-rank.ensures c.get.ensures
    (simp (to_z-of_z, r) at c.find_rate-f.ensures) c.follower-by.ensures
    (simp (to_z-of_z, c.ranges.number) at c.strike.ensures) (simp (to_z-of_z, k) at c.strike-2.ensures)
    c.leave_offers-rest.ensures c.saturating_sub-live.ensures c.set_roots.ensures c.give_slot.ensures
