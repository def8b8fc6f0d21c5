-- A number brought into a range, so that no product wraps: itself where it is in the range, and 0 for any other.
use Rattle.std.proofs.Common.{arith}
use Rattle.std.specs.Prelude.{◌≡◌, refl, Bool, true, false, cond, T, ℤ, pos}
use Rattle.std.specs.Int.Signed.{le_z, lt_z}
use Rattle.integers.specs.Parts.{int_rules}
use Rattle.offers.specs.Offers.{between}

unfoldable pub bounded : ℤ → ℤ → ℤ → ℤ
bounded low high z = cond (between low high z) z (pos 0)

pub bounded_in : (low high z : ℤ) → T (between low high z) → bounded low high z ≡ z
unfolding bounded
bounded_in low high z t = go (between low high z) t
  where
    go : (b : Bool) → T b → cond b z (pos 0) ≡ z
    go true t = refl
    go false t = absurd t

pub bounded_ranged : (low high z : ℤ) → T (between low high (pos 0)) → T (between low high (bounded low high z))
unfolding bounded
bounded_ranged low high z t = go (between low high z) (λ h. h)
  where
    go : (b : Bool) → (T b → T (between low high z)) → T (between low high (cond b z (pos 0)))
    go true f = f tt
    go false f = t

-- by the code's two tests
pub bounded_below : (low high z : ℤ) → lt_z z low ≡ true → pos 0 ≡ bounded low high z
unfolding bounded
bounded_below low high z t = let e : le_z low z ≡ false = omega (arith, int_rules) in rw e

pub bounded_over : (low high z : ℤ) → lt_z z low ≡ false → lt_z high z ≡ true → pos 0 ≡ bounded low high z
unfolding bounded
bounded_over low high z f t =
    let d : le_z low z ≡ true = omega (arith, int_rules) in
    let e : le_z z high ≡ false = omega (arith, int_rules) in
    rw (d, e)

pub bounded_inside : (low high z : ℤ) → lt_z z low ≡ false → lt_z high z ≡ false → z ≡ bounded low high z
unfolding bounded
bounded_inside low high z f g =
    let d : le_z low z ≡ true = omega (arith, int_rules) in
    let e : le_z z high ≡ true = omega (arith, int_rules) in
    rw (d, e)
