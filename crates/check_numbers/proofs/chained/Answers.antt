-- `check_numbers::chained` meets its contract: the chain is there exactly where what is left of it is there.
use Rattle.std.proofs.Common.{◌≡◌, ◌+◌, ◌-◌, arith}
use Rattle.check_numbers.specs.FreeChains.{left_all, left_more, left_not, left_other, left_ends}
use Rattle.check_numbers.proofs.chained.Goals as goal

pub loop-init : goal.loop-init
loop-init c = let q : c.args.count - 0 ≡ c.args.count = omega arith in rw q left_all

pub returns-then-not-is_free : goal.returns-then-not-is_free
returns-then-not-is_free c = left_not c.loop.invariant (omega (arith, c.loop-test.true)) c.is_free.ensures c.if-not-is_free.true

pub returns-then-not-slot_tells : goal.returns-then-not-slot_tells
returns-then-not-slot_tells c = left_other c.loop.invariant (omega (arith, c.loop-test.true)) c.is_free.ensures c.link-next.ensures c.slot_tells.ensures
    c.if-not-slot_tells.true

pub loop-preserved : goal.loop-preserved
loop-preserved c =
    let q : c.args.count - (c.loop.counter + 1) ≡ c.args.count - c.loop.counter - 1 = omega arith in
    rw q (left_more c.loop.invariant (omega (arith, c.loop-test.true)) c.is_free.ensures c.link-next.ensures c.slot_tells.ensures
    c.if-not-is_free.false c.if-not-slot_tells.false)

pub returns : goal.returns
returns c = left_ends c.loop.invariant (omega (arith, c.loop-test.false))
