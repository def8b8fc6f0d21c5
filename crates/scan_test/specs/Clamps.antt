-- What the scan computes from values in range fits an i64.
use Rattle.std.specs.Prelude.{◌≡◌, ℕ, suc, ◌+◌, ◌*◌, ◌<◌, ◌≤◌, ℤ, ◌-ℤ◌, ◌*ℤ◌, FitsSigned, unsigned_abs}
use Rattle.std.proofs.Common.{arith}
use Rattle.std.specs.Int.{w64}
use Rattle.integers.specs.Magnitude.{fits, nat_abs_sub}
use Rattle.query.specs.Readings.{clamped, clamped_size, clamped_product}

size : {x : ℤ} (m : ℕ) (a : ℤ) → x ≡ clamped (suc m) a → unsigned_abs x ≤ suc m
size m a e = rw e (clamped_size m a)

module _ {x y : ℤ} (m n : ℕ) (a b : ℤ) (ex : x ≡ clamped (suc m) a) (ey : y ≡ clamped (suc n) b) where
  pub product_fits : suc m * suc n < 1_000_000_000_000_000 → FitsSigned w64 (x *ℤ y)
  product_fits h = fits _ (omega (arith, clamped_product m n a b ex ey))

  pub gap_fits : suc m + suc n < 1_000_000_000_000_000 → FitsSigned w64 (x -ℤ y)
  gap_fits h = fits _ (omega (arith, nat_abs_sub x y, size m a ex, size n b ey))
