-- `cuts::least_rate` meets its contract: by its two tests.
use native.Mathlib.Omega.{arith}
use mir.Facts.{to_z-of_z}
use Rattle.integers.specs.Magnitude.{more_fits}
use Rattle.cuts.specs.LeastRate.{least_own, least_more, least_most}
use Rattle.cuts.proofs.least_rate.Goals as goal

pub returns-then-rate-lt-MOST_RATE : goal.returns-then-rate-lt-MOST_RATE
returns-then-rate-lt-MOST_RATE c = let f = c.ranges.rate in
    let t = simp (to_z-of_z, f) at c.if-rate-lt-MOST_RATE.true in
    let g = more_fits _ f t (omega arith) in
    simp (to_z-of_z, f, g) (least_more _ _ c.if-strict.true t)

pub returns-then-strict : goal.returns-then-strict
returns-then-strict c = let f = c.ranges.rate in
    least_most _ _ c.if-strict.true (simp (to_z-of_z, f) at c.if-rate-lt-MOST_RATE.false)

pub returns : goal.returns
returns c = simp (to_z-of_z, c.ranges.rate) (least_own _ _ c.if-strict.false)
