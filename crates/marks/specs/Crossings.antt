-- The numbers of a crossing are exact as doubles (docs/REQUIREMENTS.md, 10.2): so each of its quotients is at most half a unit off.
use Rattle.std.specs.Prelude.{◌^◌, ◌≤◌, ◌≡◌, refl, true, false, T, ℤ, pos, negsuc, neg_ℤ, nat_abs, ◌+ℤ◌, ◌*ℤ◌}
use Rattle.std.proofs.Common.{arith}
use Rattle.std.specs.Int.Signed.{le_z}
use Rattle.std.specs.Float.{fin}
use Rattle.std.specs.Float.Ieee.{div, of_int}
use Rattle.lists.specs.Bools.{and_both}
use Rattle.integers.specs.Parts.{int_rules, nat_abs_parts, gap_above}
use Rattle.integers.specs.Magnitude.{nat_abs_within}
use Rattle.offers.specs.Offers.{Offer, offer_in_range, precedes, between, crossing_numerator, crossing_denominator}
use Rattle.offers.specs.Sizes.{rate_of_lem, base_of_lem, numerator_in_range, denominator_in_range, numerator_size, denominator_size, base_gap_in_range}
use Rattle.offers.specs.Sizes.{rate_gap_in_range, scaled_price_size}
use Rattle.marks.specs.Quotient.{exact, divisible, quotient, plus_zero}

-- the price of a piece at its crossing with the next, times the crossing's denominator
abbrev pub scaled_price : Offer → Offer → ℤ
scaled_price own next = own.base *ℤ crossing_denominator own next +ℤ own.rate *ℤ crossing_numerator own next

module _ (own next : Offer) (ho : T (offer_in_range own)) (hn : T (offer_in_range next)) (before : T (precedes own next)) where
  numerator_range : T (numerator_in_range (crossing_numerator own next))
  numerator_range = base_gap_in_range own.base next.base (base_of_lem own ho) (base_of_lem next hn)

  denominator_range : T (denominator_in_range (crossing_denominator own next))
  denominator_range = rate_gap_in_range own.rate next.rate (rate_of_lem own ho) (rate_of_lem next hn)

  -- every dividend up to 2 ^ 53 is divisible by the denominator
  over_denominator : (n : ℤ) → nat_abs n ≤ 2 ^ 53 → T (divisible n (crossing_denominator own next))
  over_denominator n h =
      let d = crossing_denominator own next in
      let a = gap_above own.rate next.rate before in
      let b = denominator_size d denominator_range in
      let k = nat_abs_parts d in
      and_both (exact n) (between (pos 1) (pos (2 ^ 53)) d) (nat_abs_within 9_007_199_254_740_991 n h)
      (and_both (le_z (pos 1) d) (le_z d (pos (2 ^ 53))) (omega (arith, int_rules)) (omega (arith, int_rules)))

  pub load_divisible : T (divisible (crossing_numerator own next) (crossing_denominator own next))
  load_divisible = over_denominator (crossing_numerator own next) (omega (arith, numerator_size (crossing_numerator own next) numerator_range))

  pub price_divisible : T (divisible (scaled_price own next) (crossing_denominator own next))
  price_divisible = over_denominator (scaled_price own next)
      (omega (
        arith,
        scaled_price_size own.base own.rate (crossing_numerator own next) (crossing_denominator own next) (base_of_lem own ho) (rate_of_lem own ho)
            numerator_range denominator_range,
      ))

-- ---- examples: 7 / 3 is rounded to 53 digits, a whole quotient is exact, and zero gives +0

pub seven_thirds : quotient (pos 7) (pos 3) ≡ fin false 5_254_199_565_265_579 (negsuc 50)
unfolding div of_int
seven_thirds = refl

pub minus_seven_thirds : quotient (neg_ℤ (pos 7)) (pos 3) ≡ fin true 5_254_199_565_265_579 (negsuc 50)
unfolding div of_int
minus_seven_thirds = refl

pub ten_halves : quotient (pos 10) (pos 2) ≡ fin false 5 (pos 0)
unfolding div of_int
ten_halves = refl

pub nothing_thirds : quotient (pos 0) (pos 3) ≡ plus_zero
unfolding div of_int
nothing_thirds = refl
