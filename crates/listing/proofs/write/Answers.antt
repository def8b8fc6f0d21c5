-- `listing::write` meets its contract. The loop's invariant: the first i pieces are written, and the output's later words are as before.
use Prim.Native.Nat.{◌+◌}
use native.Mathlib.Omega.{arith}
use Rattle.listing.specs.Listing.{writing_begins, writing_goes_on}
use lib.Dec.{eqb}
use borrow.Author.Tests.{eqb-true, eqb-false}
use Rattle.listing.proofs.write.Goals as goal

pub loop-i-init : goal.loop-i-init
loop-i-init c = writing_begins _ _ c.end-s.ensures

pub loop-i-preserved : goal.loop-i-preserved
loop-i-preserved c = let i = c.loop-i.i in
    let n = c.count-n.result in
    writing_goes_on c.count-n.ensures c.if-out-n.false (eqb (i + 1) n) c.loop-i.invariant c.loop-i-test.true
    (λ q. omega (arith, eqb-true (i + 1) n q)) (λ q. omega (arith, eqb-false (i + 1) n q)) c.put_piece.ensures c.link-s.ensures
