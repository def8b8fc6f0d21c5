-- `check_memory::all_undone` meets its contract: all can be undone exactly where what is left can.
use Rattle.std.proofs.Common.{◌≡◌, ◌+◌, ◌-◌, arith}
use Rattle.form.specs.Memory.{earlier_place}
use Rattle.check_memory.specs.Walks.{going_all, going_more, going_not, going_done}
use Rattle.check_memory.proofs.all_undone.Goals as goal

pub loop-init : goal.loop-init
loop-init c = let q : c.args.count - 0 ≡ c.args.count = omega arith in (c.requires.1, omega arith, rw q going_all)

pub returns-in_default : goal.returns-in_default
returns-in_default c = going_not c.loop.invariant.2 (omega (arith, c.loop-test.true)) c.in_default.ensures

pub loop-preserved : goal.loop-preserved
loop-preserved c =
    let q : c.args.count - (c.loop.counter + 1) ≡ c.args.count - c.loop.counter - 1 = omega arith in (
      omega (arith, c.before-i.ensures, earlier_place c.loop.i c.loop.invariant.0),
      omega (arith, c.in-Some.ensures.few, c.loop.invariant.1),
      rw q (going_more c.loop.invariant.2 (omega (arith, c.loop-test.true)) c.in-Some.ensures c.before-i.ensures),
    )

pub returns : goal.returns
returns c = going_done (omega (arith, c.loop-test.false)) c.loop.invariant.2
