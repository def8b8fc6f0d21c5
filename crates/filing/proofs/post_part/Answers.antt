-- `filing::post_part` meets its contract: the reads and writes of a post, in the order of the code.
use native.Mathlib.Omega.{arith}
use mir.Facts.{to_z-of_z}
use Rattle.filing.specs.PartUpdates.{read_most, post_short, posted_part}
use Rattle.filing.proofs.post_part.Goals as goal

pub returns-then-part-lt-LEAST_PART : goal.returns-then-part-lt-LEAST_PART
returns-then-part-lt-LEAST_PART c = post_short _ c.if-part-lt-LEAST_PART.true

pub overflow_add-live : goal.overflow_add-live
overflow_add-live c = omega (arith, read_most _ c.number_at-n.ensures)

pub returns : goal.returns
returns c = let f = c.ranges in
    posted_part _ c.roots-held.ensures c.number_at-n.ensures (simp (to_z-of_z, f.rate) at c.find_rate-f.ensures)
    c.fill-s.ensures.is (simp (to_z-of_z, f.number, f.rate, f.base) at c.fill-s.ensures.words) c.enter.ensures
    c.enter-2.ensures c.join_offers-joined.ensures (omega arith) c.set_roots.ensures
