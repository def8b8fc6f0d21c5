-- `index::least_above` meets its contract: by its test.
use native.Mathlib.Omega.{arith}
use mir.Facts.{to_z-of_z}
use Rattle.integers.specs.Magnitude.{more_fits}
use Rattle.index.specs.Above.{above_more, above_most}
use Rattle.index.proofs.least_above.Goals as goal

pub returns-then-key-lt-MOST_KEY : goal.returns-then-key-lt-MOST_KEY
returns-then-key-lt-MOST_KEY c = let f = c.ranges.key in
    let t = simp (to_z-of_z, f) at c.if-key-lt-MOST_KEY.true in
    let g = more_fits _ f t (omega arith) in
    simp (to_z-of_z, f, g) (above_more _ t)

pub returns : goal.returns
returns c = let f = c.ranges.key in
    above_most _ (simp (to_z-of_z, f) at c.if-key-lt-MOST_KEY.false)
