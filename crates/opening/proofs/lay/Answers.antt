-- `opening::lay` meets its contract. The loop's invariant: the slots below `n` are laid.
use mathlib.Core.Path.{◌≡◌, subst}
use Prim.Native.Nat.{ℕ, ◌+◌, ◌-◌}
use native.Mathlib.Omega.{arith}
use Rattle.opening.specs.Starting.{Laying, laying_more, laying_last}
use Rattle.opening.proofs.lay.Goals as goal

pub loop-n-preserved : goal.loop-n-preserved
loop-n-preserved c = let e : c.loop-n.n ≡ c.loop-n.n + 1 - 1 = omega arith in
    subst (λ (k : ℕ). Laying c.args.capacity k c.args.part.now c.put_link-in-loop-n.new.part) e
    (laying_more c.loop-n.invariant (omega arith) c.loop-n-test.true (omega arith) c.put_link.auto.part
    c.put_link-in-loop-n.auto.part c.put_link.ensures c.put_link-in-loop-n.ensures)

pub returns : goal.returns
returns c = laying_last c.loop-n.invariant (omega arith) c.put_link-2.auto.part c.put_link-3.auto.part
    c.put_link-2.ensures c.put_link-3.ensures
