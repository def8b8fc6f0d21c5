-- What the voucher rule comes to: units that are a price rounded are computed, no others are so, and a rebate's voucher is that of the
-- price with its sign changed.
use Rattle.std.specs.Prelude.{ℕ, zero, suc, ◌+◌, ◌*◌, ◌-◌, ◌/◌, ◌%◌, ◌≤◌, ◌<◌, ◌≡◌, refl, ◌≢◌, ℤ, pos, negsuc, neg_ℤ, nat_abs, ◌-ℤ◌, ◌*ℤ◌}
use Rattle.std.proofs.Common.{sym, ap, arith}
use Rattle.std.proofs.Math.Decide.{ℕ_discrete}
use Rattle.std.proofs.Math.IntN.{neg_ℤ-neg_ℤ}
use Rattle.integers.specs.Parts.{pos_part, neg_part, nat_abs_parts, neg_p, neg_n, ne_parts}
use Rattle.integers.specs.Ring.{var, nat, ◌:-◌, ◌:*◌, parts}
use Rattle.integers.specs.Magnitude.{nat_abs_gap, nat_abs_neg}
use Rattle.vouchers.specs.Rule.{off, Rounded}

-- ---- the distance, in natural numbers

pub off_is : (p u : ℤ) → off p u ≡ (100 * pos_part u + neg_part p - (100 * neg_part u + pos_part p)) + (100 * neg_part u + pos_part p - (100 * pos_part u + neg_part p))
off_is p u = nat_abs_gap (pos 100 *ℤ u -ℤ p) (100 * pos_part u + neg_part p) (100 * neg_part u + pos_part p) (omega (arith, parts (nat 100 :* var u :- var p)))

-- ---- the rule computed

-- So many cents, not below 0, in units: half a unit is added before the cut, a cent less where the units below are even.
abbrev pub nearest_unit : ℕ → ℕ
nearest_unit cents = (cents + 49 + cents / 100 % 2) / 100

-- A rebate is rounded as the price of its size, and keeps its sign.
abbrev pub voucher_units : ℤ → ℤ
voucher_units (pos n) = pos (nearest_unit n)
voucher_units (negsuc n) = neg_ℤ (pos (nearest_unit (suc n)))

-- at most 50 off, and where odd at most 49
abbrev pub Near : ℕ → ℕ → Type 0
Near n m = (100 * m - n) + (n - 100 * m) + m % 2 ≤ 50

pub near : (n : ℕ) → Near n (nearest_unit n)
near n = go (ℕ_discrete (nearest_unit n) (n / 100))
  where
    next : (q m : ℕ) → m ≡ q + 1 → m % 2 + q % 2 ≡ 1
    next q m e = omega arith

    go : Dec (nearest_unit n ≡ n / 100) → Near n (nearest_unit n)
    go (yes e) = omega (arith, ap (λ (m : ℕ). m % 2) e)
    go (no e) = omega (arith, next (n / 100) (nearest_unit n) (omega arith))

pub rounded : (p : ℤ) → Rounded p (voucher_units p)
rounded (pos n) = omega (arith, near n, off_is (pos n) (pos (nearest_unit n)))
rounded (negsuc n) =
    let q = pos (nearest_unit (suc n)) in
    omega (arith, near (suc n), off_is (negsuc n) (neg_ℤ q), neg_p q, neg_n q, ap (λ (m : ℕ). m % 2) (nat_abs_neg q))

-- ---- no other units are so

-- of two that differ both are 50 off, and one is odd
pub apart : (p u v : ℤ) → Rounded p u → Rounded p v → pos_part u + neg_part v < pos_part v + neg_part u → ⊥
apart p u v r s l =
    let x = off_is p u in
    let y = off_is p v in
    let next : pos_part u + neg_part v + 1 ≡ pos_part v + neg_part u = omega arith in
    let a : nat_abs u % 2 ≡ 0 = r.half (omega arith) in
    let b : nat_abs v % 2 ≡ 0 = s.half (omega arith) in
    omega (arith, nat_abs_parts u, nat_abs_parts v)

-- any others are 50 cents off or more, so none are nearer
pub others_off : (p u v : ℤ) → Rounded p u → u ≢ v → 50 ≤ off p v
others_off p u v r d = omega (arith, off_is p u, off_is p v, ne_parts u v d)

-- ---- signs

pub sign_changed : (p : ℤ) → voucher_units (neg_ℤ p) ≡ neg_ℤ (voucher_units p)
sign_changed (pos zero) = refl
sign_changed (pos (suc n)) = refl
sign_changed (negsuc n) = sym (neg_ℤ-neg_ℤ (pos (nearest_unit (suc n))))
