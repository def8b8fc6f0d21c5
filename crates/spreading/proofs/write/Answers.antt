-- `spreading::write` meets its contract. The loop's invariant: the first i offers are written, and the output's later words are as before.
use native.Mathlib.Omega.{arith}
use Prim.Native.Nat.{◌<◌}
use Rattle.std.proofs.lemmas.List.{get_or-take}
use Rattle.spreading.specs.Writes.{copying_begins, copying_goes_on}
use Rattle.spreading.proofs.write.Goals as goal

pub loop-i-init : goal.loop-i-init
loop-i-init c = copying_begins _ _ _ _

pub loop-i-preserved : goal.loop-i-preserved
loop-i-preserved c = let h : c.loop-i.i < c.args.n = omega arith in
    copying_goes_on (omega (arith, c.if-out-n.false)) c.loop-i.invariant c.requires h (λ _. get_or-take _ _ _ 0 h) c.put_offer.ensures
