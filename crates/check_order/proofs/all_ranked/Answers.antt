-- `check_order::all_ranked` meets its contract: so far every rank is its offer's.
use Rattle.std.proofs.Common.{◌≡◌, ◌+◌, arith}
use Rattle.check_trees.specs.Deciding.{every_more}
use Rattle.check_trees.proofs.Scans.{range_long, range_at}
use Rattle.check_order.specs.Ranked.{ranked_here}
use Rattle.check_order.proofs.all_ranked.Goals as goal

pub loop-slot-preserved : goal.loop-slot-preserved
loop-slot-preserved c =
    let xs = c.args.scratch.now in
    let a = c.args.from in
    let b = c.args.to in
    let i = c.loop-slot.slot-index in
    let e = range_at xs a b (omega arith) i 0 (omega (arith, range_long xs a b (omega arith))) in
    let q : a + (i + 1) ≡ a + i + 1 = omega arith in
    rw q (every_more c.loop-slot.invariant (ranked_here e c.ranked.ensures c.if-not-ranked.false))
