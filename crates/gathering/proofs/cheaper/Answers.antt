-- `gathering::cheaper` meets its contract.
use mir.Facts.{to_z-of_z}
use native.Mathlib.Omega.{arith}
use Rattle.gathering.specs.Cheapest.{cheaper_none, cheaper_own, cheaper_found}
use Rattle.gathering.proofs.cheaper.Goals as goal

pub returns-then-root-eq0 : goal.returns-then-root-eq0
returns-then-root-eq0 c = cheaper_none (omega (arith, c.if-root-eq0.true))

pub returns-then-no_dearer : goal.returns-then-no_dearer
returns-then-no_dearer c = let load = c.ranges.load in
    cheaper_own (simp (to_z-of_z, load) at c.descend-other.ensures) (λ z. omega (arith, z, c.if-root-eq0.false))
    (simp (to_z-of_z, load) at c.no_dearer.ensures) c.if-no_dearer.true

pub returns : goal.returns
returns c = let load = c.ranges.load in
    cheaper_found (simp (to_z-of_z, load) at c.descend-other.ensures) (λ z. omega (arith, z, c.if-root-eq0.false))
    (simp (to_z-of_z, load) at c.no_dearer.ensures) c.if-no_dearer.false
