-- How large an integer expression gets: its magnitude is at most the same expression of its unknowns' magnitudes, with sums for differences.
-- `fits64 e (omega (arith, ..))` so shows that a value fits an i64, with `mul-le-mul` of the unknowns' bounds in the list where there are products.
use Rattle.std.specs.Prelude.{◌≡◌, refl, ◌&&◌, true, false, ℕ, zero, suc, ◌+◌, ◌-◌, ◌*◌, ◌^◌, ◌≤◌, ◌<◌, T, ℤ, pos, negsuc, neg_ℤ, nat_abs, ◌+ℤ◌, ◌-ℤ◌, ◌*ℤ◌}
use Rattle.std.proofs.Common.{true≢false, mul-le-mul, arith, Fits, SFits}
use Rattle.std.specs.Int.Signed.{le_z, lt_z, non_neg}
use Rattle.std.specs.Int.{w64}
use Rattle.lists.specs.Bools.{and_both}
use Rattle.integers.specs.Parts.{pos_part, neg_part, int_rules, nat_abs_parts, mag_nat_abs, add_parts, sub_parts, within_parts}
use Rattle.integers.specs.Ring.{Ex, var, nat, neg, ◌:+◌, ◌:-◌, ◌:*◌, ⟦◌⟧}

abbrev pub size_of : Ex → ℕ
size_of (var z) = nat_abs z
size_of (nat n) = n
size_of (neg a) = size_of a
size_of (a :+ b) = size_of a + size_of b
size_of (a :- b) = size_of a + size_of b
size_of (a :* b) = size_of a * size_of b

-- one part of z is 0
balance : (z : ℤ) (x y : ℕ) → pos_part z + x ≡ neg_part z + y → nat_abs z ≤ x + y
balance (pos n) x y h = omega arith
balance (negsuc n) x y h = omega arith

-- the size of a difference a − b of naturals
pub nat_abs_gap : (z : ℤ) (a b : ℕ) → pos_part z + b ≡ neg_part z + a → nat_abs z ≡ (a - b) + (b - a)
nat_abs_gap (pos n) a b h = omega arith
nat_abs_gap (negsuc n) a b h = omega arith

pub nat_abs_neg : (a : ℤ) → nat_abs (neg_ℤ a) ≡ nat_abs a
nat_abs_neg (pos zero) = refl
nat_abs_neg (pos (suc n)) = refl
nat_abs_neg (negsuc n) = refl

pub nat_abs_add : (a b : ℤ) → nat_abs (a +ℤ b) ≤ nat_abs a + nat_abs b
nat_abs_add a b =
    omega (arith, balance (a +ℤ b) (neg_part a + neg_part b) (pos_part a + pos_part b) (add_parts a b), nat_abs_parts a, nat_abs_parts b)

pub nat_abs_sub : (a b : ℤ) → nat_abs (a -ℤ b) ≤ nat_abs a + nat_abs b
nat_abs_sub a b =
    omega (arith, balance (a -ℤ b) (neg_part a + pos_part b) (pos_part a + neg_part b) (sub_parts a b), nat_abs_parts a, nat_abs_parts b)

pub nat_abs_mul : (a b : ℤ) → nat_abs (a *ℤ b) ≡ nat_abs a * nat_abs b
nat_abs_mul (pos m) (pos n) = refl
nat_abs_mul (pos m) (negsuc n) = nat_abs_neg (pos (m * suc n))
nat_abs_mul (negsuc m) (pos n) = nat_abs_neg (pos (suc m * n))
nat_abs_mul (negsuc m) (negsuc n) = refl

pub size : (e : Ex) → nat_abs ⟦ e ⟧ ≤ size_of e
size (var z) = omega arith
size (nat n) = omega arith
size (neg a) = omega (arith, size a, nat_abs_neg ⟦ a ⟧)
size (a :+ b) = omega (arith, size a, size b, nat_abs_add ⟦ a ⟧ ⟦ b ⟧)
size (a :- b) = omega (arith, size a, size b, nat_abs_sub ⟦ a ⟧ ⟦ b ⟧)
size (a :* b) = omega (arith, nat_abs_mul ⟦ a ⟧ ⟦ b ⟧, mul-le-mul (size a) (size b))

pub fits : (z : ℤ) → nat_abs z < 2 ^ 63 → SFits w64 z
fits z h = record { sfits = omega (arith, mag_nat_abs z) }

pub fits64 : (e : Ex) → size_of e < 2 ^ 63 → SFits w64 ⟦ e ⟧
fits64 e h = fits ⟦ e ⟧ (omega (arith, size e))

-- ---- bounds on an unknown

pub within_nat_abs : (m : ℕ) (z : ℤ) → T (le_z (negsuc m) z && le_z z (pos (suc m))) → nat_abs z ≤ suc m
within_nat_abs m z t = omega (arith, within_parts m z t, nat_abs_parts z)

pub nat_abs_within : (m : ℕ) (z : ℤ) → nat_abs z ≤ suc m → T (le_z (negsuc m) z && le_z z (pos (suc m)))
nat_abs_within m z h = and_both (le_z (negsuc m) z) (le_z z (pos (suc m))) (omega (arith, int_rules, nat_abs_parts z)) (omega (arith, int_rules, nat_abs_parts z))

-- where it is not negative, a number is its magnitude
pub nat_abs_is : (z : ℤ) → T (le_z (pos 0) z) → pos (nat_abs z) ≡ z
nat_abs_is (pos n) t = refl
nat_abs_is (negsuc n) t = absurd t

-- .. which an unsigned word holds
pub nat_abs_fits : (z : ℤ) → SFits w64 z → lt_z z (pos 0) ≡ false → T (non_neg z) × Fits w64 (nat_abs z)
nat_abs_fits (pos n) f e = (tt, omega arith)
nat_abs_fits (negsuc n) f e = absurd (true≢false e)

-- ---- one more than what is below some most

one_more : {most : ℕ} (z : ℤ) → SFits w64 z → lt_z z (pos most) ≡ true → most < 2 ^ 63 → nat_abs (z +ℤ pos 1) < 2 ^ 63
one_more (pos n) f t h = omega (arith, int_rules, nat_abs_gap (pos n +ℤ pos 1) (n + 1) 0 (omega (arith, add_parts (pos n) (pos 1))))
one_more (negsuc n) f t h = omega (arith, f.sfits, nat_abs_gap (negsuc n +ℤ pos 1) 1 (suc n) (omega (arith, add_parts (negsuc n) (pos 1))))

pub more_fits : {most : ℕ} (z : ℤ) → SFits w64 z → lt_z z (pos most) ≡ true → most < 2 ^ 63 → SFits w64 (z +ℤ pos 1)
more_fits z f t h = fits (z +ℤ pos 1) (one_more z f t h)

-- ---- one line each

sum_example : (a b : ℤ) → nat_abs a ≤ 1_000 → nat_abs b ≤ 1_000 → SFits w64 (a +ℤ b *ℤ pos 7)
sum_example a b h k = fits64 (var a :+ var b :* nat 7) (omega arith)

product_example : (a b : ℤ) → T (le_z (negsuc 999) a && le_z a (pos 1_000)) → T (le_z (negsuc 4) b && le_z b (pos 5)) → nat_abs (a *ℤ b -ℤ pos 3) ≤ 5_003
product_example a b h k =
    omega (arith, size (var a :* var b :- nat 3), mul-le-mul (within_nat_abs 999 a h) (within_nat_abs 4 b k))
