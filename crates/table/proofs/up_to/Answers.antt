-- `table::up_to` meets its contract: by cases on the sign, and on the tests.
use mathlib.Core.Path.{◌≡◌, sym}
use mathlib.Core.Bool.{true, false, true≢false}
use Prim.Native.Nat.{ℕ, ◌≤◌, ◌<◌}
use native.Mathlib.Omega.{arith}
use borrow.Author.Rules.{rules}
use borrow.Author.Tests.{ltb-true}
use lib.IntN.{ℤ, pos, negsuc, nat_abs}
use lib.Signed.{lt_z}
use mir.Facts.{to_z-of_z}
use Rattle.integers.specs.Magnitude.{nat_abs_fits}
use Rattle.table.specs.Words.{up_to, up_to_in, up_to_over, up_to_below}
use Rattle.table.proofs.up_to.Goals as goal

-- `table::up_to` meets its contract: by cases on the sign, and on the tests.
below : (most : ℕ) (z : ℤ) → lt_z z (pos 0) ≡ true → 0 ≡ up_to most z
below most (pos n) e = absurd (omega (arith, ltb-true n 0 e))
below most (negsuc n) e = sym (up_to_below most n)

over : (most : ℕ) (z : ℤ) → lt_z z (pos 0) ≡ false → most < nat_abs z → 0 ≡ up_to most z
over most (pos n) e h = sym (up_to_over most n h)
over most (negsuc n) e h = absurd (true≢false e)

inside : (most : ℕ) (z : ℤ) → lt_z z (pos 0) ≡ false → nat_abs z ≤ most → nat_abs z ≡ up_to most z
inside most (pos n) e h = sym (up_to_in most n h)
inside most (negsuc n) e h = absurd (true≢false e)

pub returns-then-value-lt0 : goal.returns-then-value-lt0
returns-then-value-lt0 c = below _ _ (simp (to_z-of_z, c.ranges.value) at c.if-value-lt0.true)

pub returns-then-number-most : goal.returns-then-number-most
returns-then-number-most c = let f = c.ranges.value in over _ _ (simp (to_z-of_z, f) at c.if-value-lt0.false) (simp (to_z-of_z, f) at c.if-number-most.true)

pub returns : goal.returns
returns c = let f = c.ranges.value in
    simp (to_z-of_z, f)
    (inside _ _ (simp (to_z-of_z, f) at c.if-value-lt0.false) (simp (to_z-of_z, f) at c.if-number-most.false))
