-- What the code computes from offers and loads in range, and that each value fits an i64. For each expression two facts: how large it gets, and that it fits.
use Rattle.std.specs.Prelude.{◌≤◌, ◌≡◌, refl, Bool, ◌&&◌, T, ℤ, pos, negsuc, nat_abs, ◌+ℤ◌, ◌-ℤ◌, ◌*ℤ◌}
use Rattle.std.proofs.Common.{mul-le-mul, arith, SFits}
use Rattle.std.specs.Int.{w64}
use Rattle.lists.specs.Bools.{and_left, and_right, and_both}
use Rattle.integers.specs.Parts.{range_parts}
use Rattle.integers.specs.Magnitude.{nat_abs_add, nat_abs_sub, nat_abs_mul, fits, within_nat_abs, nat_abs_within}
use Rattle.offers.specs.Offers.{Offer, within, number_in_range, rate_in_range, base_in_range, load_in_range, price_in_range, offer_in_range}

-- ---- an offer in range

module _ (o : Offer) where
  numbered : Bool
  numbered = number_in_range o.number && rate_in_range o.rate

  pub number_of_lem : T (offer_in_range o) → T (number_in_range o.number)
  unfolding numbered
  number_of_lem t = and_left (number_in_range o.number) (rate_in_range o.rate) (and_left numbered (base_in_range o.base) t)

  pub rate_of_lem : T (offer_in_range o) → T (rate_in_range o.rate)
  unfolding numbered
  rate_of_lem t = and_right (number_in_range o.number) (rate_in_range o.rate) (and_left numbered (base_in_range o.base) t)

  pub base_of_lem : T (offer_in_range o) → T (base_in_range o.base)
  unfolding numbered
  base_of_lem t = and_right numbered (base_in_range o.base) t

  pub offer_of_lem : T (number_in_range o.number) → T (rate_in_range o.rate) → T (base_in_range o.base) → T (offer_in_range o)
  unfolding numbered
  offer_of_lem n r b = and_both numbered (base_in_range o.base) (and_both (number_in_range o.number) (rate_in_range o.rate) n r) b

-- ---- the ranges as sizes

pub number_size : (n : ℤ) → T (number_in_range n) → (1 ≤ nat_abs n) × (nat_abs n ≤ 9_999)
number_size (pos n) t = omega (arith, range_parts (pos 1) (pos n) (pos 9_999) t)
number_size (negsuc n) t = omega (arith, range_parts (pos 1) (negsuc n) (pos 9_999) t)

pub number_is : (n : ℤ) → T (number_in_range n) → n ≡ pos (nat_abs n)
number_is (pos n) t = refl
number_is (negsuc n) t = absurd t

pub rate_size : (r : ℤ) → T (rate_in_range r) → nat_abs r ≤ 100_000
rate_size r t = within_nat_abs 99_999 r t

pub base_size : (b : ℤ) → T (base_in_range b) → nat_abs b ≤ 1_000_000_000
base_size b t = within_nat_abs 999_999_999 b t

pub load_size : (q : ℤ) → T (load_in_range q) → nat_abs q ≤ 1_000_000
load_size q t = within_nat_abs 999_999 q t

pub price_size : (p : ℤ) → T (price_in_range p) → nat_abs p ≤ 101_000_000_000
price_size p t = within_nat_abs 100_999_999_999 p t

-- ---- prices

pub product_size : (r q : ℤ) → T (rate_in_range r) → T (load_in_range q) → nat_abs (r *ℤ q) ≤ 100_000_000_000
product_size r q hr hq = omega (arith, nat_abs_mul r q, mul-le-mul (rate_size r hr) (load_size q hq))

pub product_fits : (r q : ℤ) → T (rate_in_range r) → T (load_in_range q) → SFits w64 (r *ℤ q)
product_fits r q hr hq = fits (r *ℤ q) (omega (arith, product_size r q hr hq))

pub price_at_size : (b r q : ℤ) → T (base_in_range b) → T (rate_in_range r) → T (load_in_range q) → nat_abs (b +ℤ r *ℤ q) ≤ 101_000_000_000
price_at_size b r q hb hr hq = omega (arith, nat_abs_add b (r *ℤ q), base_size b hb, product_size r q hr hq)

-- ---- crossings: the numerator next base − own base, the denominator own rate − next rate

abbrev pub numerator_in_range : ℤ → Bool
numerator_in_range n = within 2_000_000_000 n

abbrev pub denominator_in_range : ℤ → Bool
denominator_in_range d = within 200_000 d

pub numerator_size : (n : ℤ) → T (numerator_in_range n) → nat_abs n ≤ 2_000_000_000
numerator_size n t = within_nat_abs 1_999_999_999 n t

pub denominator_size : (d : ℤ) → T (denominator_in_range d) → nat_abs d ≤ 200_000
denominator_size d t = within_nat_abs 199_999 d t

module _ (b b' : ℤ) (hb : T (base_in_range b)) (hb' : T (base_in_range b')) where
  pub base_gap_size : nat_abs (b' -ℤ b) ≤ 2_000_000_000
  base_gap_size = omega (arith, nat_abs_sub b' b, base_size b hb, base_size b' hb')

  pub base_gap_fits : SFits w64 (b' -ℤ b)
  base_gap_fits = fits (b' -ℤ b) (omega (arith, base_gap_size))

  pub base_gap_in_range : T (numerator_in_range (b' -ℤ b))
  base_gap_in_range = nat_abs_within 1_999_999_999 (b' -ℤ b) base_gap_size

module _ (r r' : ℤ) (hr : T (rate_in_range r)) (hr' : T (rate_in_range r')) where
  pub rate_gap_size : nat_abs (r -ℤ r') ≤ 200_000
  rate_gap_size = omega (arith, nat_abs_sub r r', rate_size r hr, rate_size r' hr')

  pub rate_gap_fits : SFits w64 (r -ℤ r')
  rate_gap_fits = fits (r -ℤ r') (omega (arith, rate_gap_size))

  pub rate_gap_in_range : T (denominator_in_range (r -ℤ r'))
  rate_gap_in_range = nat_abs_within 199_999 (r -ℤ r') rate_gap_size

-- ---- the price of a line at a crossing, times its denominator

module _ (b d : ℤ) (hb : T (base_in_range b)) (hd : T (denominator_in_range d)) where
  pub base_times_size : nat_abs (b *ℤ d) ≤ 200_000_000_000_000
  base_times_size = omega (arith, nat_abs_mul b d, mul-le-mul (base_size b hb) (denominator_size d hd))

  pub base_times_fits : SFits w64 (b *ℤ d)
  base_times_fits = fits (b *ℤ d) (omega (arith, base_times_size))

module _ (r n : ℤ) (hr : T (rate_in_range r)) (hn : T (numerator_in_range n)) where
  pub rate_times_size : nat_abs (r *ℤ n) ≤ 200_000_000_000_000
  rate_times_size = omega (arith, nat_abs_mul r n, mul-le-mul (rate_size r hr) (numerator_size n hn))

  pub rate_times_fits : SFits w64 (r *ℤ n)
  rate_times_fits = fits (r *ℤ n) (omega (arith, rate_times_size))

module _ (b r n d : ℤ) (hb : T (base_in_range b)) (hr : T (rate_in_range r)) (hn : T (numerator_in_range n)) (hd : T (denominator_in_range d)) where
  pub scaled_price_size : nat_abs (b *ℤ d +ℤ r *ℤ n) ≤ 400_000_000_000_000
  scaled_price_size = omega (arith, nat_abs_add (b *ℤ d) (r *ℤ n), base_times_size b d hb hd, rate_times_size r n hr hn)

  pub scaled_price_fits : SFits w64 (b *ℤ d +ℤ r *ℤ n)
  scaled_price_fits = fits (b *ℤ d +ℤ r *ℤ n) (omega (arith, scaled_price_size))

-- ---- the comparison of two crossings, and of a load with one

module _ (n d : ℤ) (hn : T (numerator_in_range n)) (hd : T (denominator_in_range d)) where
  pub cross_product_size : nat_abs (n *ℤ d) ≤ 400_000_000_000_000
  cross_product_size = omega (arith, nat_abs_mul n d, mul-le-mul (numerator_size n hn) (denominator_size d hd))

  pub cross_product_fits : SFits w64 (n *ℤ d)
  cross_product_fits = fits (n *ℤ d) (omega (arith, cross_product_size))

module _ (q d : ℤ) (hq : T (load_in_range q)) (hd : T (denominator_in_range d)) where
  pub load_times_size : nat_abs (q *ℤ d) ≤ 200_000_000_000
  load_times_size = omega (arith, nat_abs_mul q d, mul-le-mul (load_size q hq) (denominator_size d hd))

  pub load_times_fits : SFits w64 (q *ℤ d)
  load_times_fits = fits (q *ℤ d) (omega (arith, load_times_size))
