-- The code's steps to a voucher: the division goes toward zero and leaves a rest, and enough of a rest leads one unit further out.
use Rattle.std.specs.Prelude.{ℕ, suc, ◌+◌, ◌*◌, ◌/◌, ◌%◌, ◌^◌, ◌≤◌, ◌<◌, ◌≡◌, refl, ℤ, pos, negsuc, nat_abs, ◌+ℤ◌, ◌-ℤ◌}
use Rattle.std.proofs.Common.{sym, ap, ◌∙◌, lt_of_not-le, arith, SFits, to_z, of_z}
use Rattle.std.specs.Int.Signed.{quot_z, rem_z, nat_abs-le}
use Rattle.std.specs.Int.{w64}
use Rattle.std.proofs.lemmas.Int.{to_z-of_z}
use Rattle.integers.specs.Parts.{pos_part, neg_part, nat_abs_parts, neg_p, neg_n, add_parts, sub_parts}
use Rattle.integers.specs.Magnitude.{fits, nat_abs_neg, nat_abs_add, nat_abs_sub}
use Rattle.vouchers.specs.Rule.{Rounded}
use Rattle.vouchers.specs.RuleLaws.{off_is}

-- ---- each value fits an i64, whatever the price

quot_size : (p : ℤ) (d : ℕ) → nat_abs (quot_z p (pos d)) ≡ nat_abs p / d
quot_size (pos n) d = refl
quot_size (negsuc n) d = nat_abs_neg (pos (suc n / d))

rest_size : (p : ℤ) (d : ℕ) → nat_abs (rem_z p (pos d)) ≡ nat_abs p % d
rest_size (pos n) d = refl
rest_size (negsuc n) d = nat_abs_neg (pos (suc n % d))

pub rest_fits : (p : ℤ) → SFits w64 (rem_z p (pos 100))
rest_fits p = fits (rem_z p (pos 100)) (omega (arith, rest_size p 100))

module _ (p : ℤ) (f : SFits w64 p) where
  small : nat_abs (quot_z p (pos 100)) < 2 ^ 62
  small = omega (arith, quot_size p 100, nat_abs-le p f.sfits)

  pub units_fit : SFits w64 (quot_z p (pos 100))
  units_fit = fits (quot_z p (pos 100)) (omega (arith, small))

  -- `%` asks it of the quotient too
  pub pairs_fit : SFits w64 (quot_z (quot_z p (pos 100)) (pos 2))
  pairs_fit = fits (quot_z (quot_z p (pos 100)) (pos 2)) (omega (arith, small, quot_size (quot_z p (pos 100)) 2))

  pub above_fits : SFits w64 (quot_z p (pos 100) +ℤ pos 1)
  above_fits = fits (quot_z p (pos 100) +ℤ pos 1) (omega (arith, small, nat_abs_add (quot_z p (pos 100)) (pos 1)))

  pub below_fits : SFits w64 (quot_z p (pos 100) -ℤ pos 1)
  below_fits = fits (quot_z p (pos 100) -ℤ pos 1) (omega (arith, small, nat_abs_sub (quot_z p (pos 100)) (pos 1)))

-- ---- the division

-- p is q units and a rest of r cents, on whichever side
pub record Cut (p q r : ℤ) : Type 0 where
  pub sum : pos_part p + (100 * neg_part q + neg_part r) ≡ neg_part p + (100 * pos_part q + pos_part r)
  pub short : pos_part r + neg_part r < 100

pub cut : (p : ℤ) → Cut p (quot_z p (pos 100)) (rem_z p (pos 100))
cut (pos n) = omega arith
cut (negsuc n) =
    let q = pos (suc n / 100) in
    let r = pos (suc n % 100) in
    omega (arith, neg_p q, neg_n q, neg_p r, neg_n r)

-- ---- even or odd, by the bits of the rest of a division by 2

pub even : (q : ℤ) → of_z w64 (rem_z q (pos 2)) ≡ 0 → nat_abs q % 2 ≡ 0
even q e =
    let f : SFits w64 (rem_z q (pos 2)) = fits (rem_z q (pos 2)) (omega (arith, rest_size q 2)) in
    sym (rest_size q 2) ∙ ap nat_abs (sym (to_z-of_z w64 (rem_z q (pos 2)) f) ∙ ap (to_z w64) e)

pub odd : (q : ℤ) → (of_z w64 (rem_z q (pos 2)) ≡ 0 → ⊥) → nat_abs q % 2 ≡ 1
odd q f = omega (arith, rest_size q 2, lt_of_not-le (λ l. f (zero_bits (rem_z q (pos 2)) l)))
  where
    zero_bits : (z : ℤ) → nat_abs z ≤ 0 → of_z w64 z ≡ 0
    zero_bits (pos n) l = ap (λ (m : ℕ). of_z w64 (pos m)) (omega arith)
    zero_bits (negsuc n) l = absurd (omega arith)

-- ---- the rule

-- from e cents on a rest leads further out: 51 where q is even, and 50 where it is odd
pub record Enough (q e : ℤ) : Type 0 where
  pub not_below : neg_part e ≡ 0
  pub is : pos_part e + nat_abs q % 2 ≡ 51

module _ {p q r e : ℤ} (c : Cut p q r) (f : Enough q e) where
  -- r is e or more
  pub further_up : pos_part e + neg_part r ≤ pos_part r + neg_part e → Rounded p (q +ℤ pos 1)
  further_up t = let u = q +ℤ pos 1 in omega (arith, off_is p u, add_parts q (pos 1), nat_abs_parts q, nat_abs_parts u)

  -- r is −e or less
  pub further_down : pos_part r + pos_part e ≤ neg_part r + neg_part e → Rounded p (q -ℤ pos 1)
  further_down t = let u = q -ℤ pos 1 in omega (arith, off_is p u, sub_parts q (pos 1), nat_abs_parts q, nat_abs_parts u)

  -- r lies between
  pub no_further : pos_part r + neg_part e < pos_part e + neg_part r → neg_part r + neg_part e < pos_part r + pos_part e → Rounded p q
  no_further t s = omega (arith, off_is p q)
