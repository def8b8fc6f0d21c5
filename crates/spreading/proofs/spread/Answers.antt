-- `spreading::spread` meets its contract. The loops' invariant: the slots of those below in front of the one in hand are put.
use native.Mathlib.Omega.{arith}
use mathlib.Core.Path.{refl}
use Prim.Native.Nat.{◌<◌}
use mir.Facts.{to_z-of_z}
use Rattle.std.proofs.lemmas.List.{get_or-take}
use Rattle.spreading.specs.Nexts.{last_read}
use Rattle.spreading.specs.Spreads.{spreading_begins, spreading_full, spreading_ends, spreading_goes_to, spreading_goes_past}
use Rattle.spreading.proofs.spread.Goals as goal

pub loop-first-init : goal.loop-first-init
loop-first-init c = spreading_begins _ _ _ c.requires.1 (λ h. refl)

pub loop-m-init : goal.loop-m-init
loop-m-init c = let h : c.loop-first.first-index < c.args.n = omega arith in rw get_or-take c.loop-first.invariant

pub returns-then-m-ge-SLOTS : goal.returns-then-m-ge-SLOTS
returns-then-m-ge-SLOTS c = spreading_full _ _ _ c.requires.1 (simp (to_z-of_z, c.ranges.load, c.ranges.price) at c.loop-m.invariant) (omega arith)
    c.if-m-ge-SLOTS.true

pub loop-m-preserved : goal.loop-m-preserved
loop-m-preserved c = spreading_goes_to _ _ _ c.requires.1 c.loop-m.invariant c.requires.0 (omega arith) c.if-m-ge-SLOTS.false
    (last_read c.number_at-root.ensures c.end_in-last.ensures) c.next_below-s.ensures (omega arith)

pub loop-first-preserved : goal.loop-first-preserved
loop-first-preserved c = spreading_goes_past _ _ _ c.requires.1 c.loop-m.invariant c.requires.0 (omega arith) c.if-m-ge-SLOTS.false
    (last_read c.number_at-root.ensures c.end_in-last.ensures) c.next_below-s.ensures (omega arith) (λ h. refl)

pub returns : goal.returns
returns c = spreading_ends _ _ _ c.requires.1 (simp (to_z-of_z, c.ranges.load, c.ranges.price) at c.loop-first.invariant) (omega arith)
