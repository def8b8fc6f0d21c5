-- Range tests as code makes them: too low, too high, and otherwise in range. Each says what the test of the whole range, `between l h z`
-- or `within n z` of the crate offers, comes to.
use Rattle.std.specs.Prelude.{◌≡◌, true, false, ◌&&◌, ℤ}
use Rattle.std.proofs.Common.{arith}
use Rattle.std.specs.Int.Signed.{le_z, lt_z}
use Rattle.lists.specs.Bools.{and_is, not_first, not_second}
use Rattle.integers.specs.Parts.{int_rules}

module _ (l h z : ℤ) where
  pub too_low : lt_z z l ≡ true → (le_z l z && le_z z h) ≡ false
  too_low e = not_first (le_z l z) (le_z z h) (omega (arith, int_rules))

  pub too_high : lt_z h z ≡ true → (le_z l z && le_z z h) ≡ false
  too_high e = not_second (le_z l z) (le_z z h) (omega (arith, int_rules))

  pub in_range_lem : lt_z z l ≡ false → lt_z h z ≡ false → (le_z l z && le_z z h) ≡ true
  in_range_lem e f = and_is (le_z l z) (le_z z h) (omega (arith, int_rules)) (omega (arith, int_rules))
