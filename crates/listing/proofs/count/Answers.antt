-- `listing::count` meets its contract. The loop's invariant: the n-th of the pieces is in slot s, and no tree has more than there are slots.
use native.Mathlib.Omega.{arith}
use Rattle.listing.specs.PieceCounts.{along_begins, along_none, along_goes_on, along_ends, along_over}
use Rattle.listing.proofs.count.Goals as goal

pub returns-then-s-eq0 : goal.returns-then-s-eq0
returns-then-s-eq0 c = along_none c.end-s.ensures c.if-s-eq0.true

pub loop-n-init : goal.loop-n-init
loop-n-init c = (λ h. along_begins c.end-last.ensures c.end-s.ensures c.if-s-eq0.false, λ h. absurd (omega arith))

pub loop-n-preserved : goal.loop-n-preserved
loop-n-preserved c = let g = c.loop-n.invariant.0 (omega arith) in
    (λ h. along_goes_on g c.if-s-last.false (omega arith) (rw c.of-read.ensures at c.link-s.ensures), λ h. along_over g c.if-s-last.false (omega arith))

pub returns-then-s-last : goal.returns-then-s-last
returns-then-s-last c = along_ends (c.loop-n.invariant.0 (omega arith)) c.if-s-last.true
