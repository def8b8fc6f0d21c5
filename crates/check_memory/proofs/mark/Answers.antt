-- `check_memory::mark` meets its contract: the flags of the slots so far are raised.
use mir.Facts.{to_z-of_z}
use mir.Syntax.{w64}
use Rattle.std.proofs.Common.{◌≡◌, ◌∙◌, ap, ℕ, ◌≤◌, List, length, take, arith, FitsSigned}
use Rattle.std.proofs.lemmas.List.{get_or-take}
use Rattle.std.proofs.lemmas.Slice.{between_from_start}
use Rattle.table.specs.Words.{up_to}
use Rattle.check_trees.proofs.Scans.{range_long}
use Rattle.check_memory.specs.Flags.{most_number, number_below, marking_none, marking_more, marking_done}
use Rattle.check_memory.proofs.mark.Goals as goal

front_long : (xs : List ℕ) (n : ℕ) → n ≤ length xs → length (take n xs) ≡ n
front_long xs n h = omega (arith, ap length (between_from_start xs n), range_long xs 0 n h)

pub loop-slot-init : goal.loop-slot-init
loop-slot-init c = marking_none

pub bounds-live-number : goal.bounds-live-number
bounds-live-number c = number_below _ c.up_to-number.ensures

pub loop-slot-preserved : goal.loop-slot-preserved
loop-slot-preserved c =
    let f : FitsSigned w64 c.get.result = record { sfits = c.get.type_inv } in
    let long = front_long c.args.scratch.now c.args.n (omega arith) in
    let e = get_or-take c.args.n c.args.scratch.now c.loop-slot.slot-index 0 (omega (arith, long, c.loop-slot-test.true)) in
    marking_more e ((simp (to_z-of_z, f) at c.up_to-number.ensures) ∙ ap (up_to most_number) c.get.ensures) c.loop-slot.invariant

pub returns : goal.returns
returns c =
    let long = front_long c.args.scratch.now c.args.n (omega arith) in
    marking_done (omega (arith, long, c.loop-slot-test.false, c.loop-slot.auto.slot-index-end)) c.loop-slot.invariant
