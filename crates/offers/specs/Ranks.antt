-- The rank of an offer in one word. It falls along the order of offers, and tells its offer.
use Rattle.std.specs.Prelude.{ℕ, ◌+◌, ◌*◌, ◌≡◌, T, ℤ, pos, ◌+ℤ◌, ◌-ℤ◌, ◌*ℤ◌}
use Rattle.std.proofs.Common.{arith, sym, ap, ⊎_elim, SFits}
use Rattle.std.specs.Int.Signed.{lt_z}
use Rattle.std.specs.Int.{w64}
use Rattle.integers.specs.Parts.{pos_part, neg_part, int_rules, add_parts, sub_parts, mul_p, mul_n, range_parts}
use Rattle.integers.specs.Magnitude.{nat_abs_add, nat_abs_sub, nat_abs_mul, fits}
use Rattle.offers.specs.Offers.{Offer, offer_in_range}
use Rattle.offers.specs.Sizes.{number_of_lem, rate_of_lem, base_of_lem, number_size, rate_size, base_size}
use Rattle.offers.specs.Order.{Ahead, by_rate_lem, by_base, by_number, compare_offers}

-- one more than the span of a number, and than the span of what stands behind a rate
abbrev pub base_weight : ℕ
base_weight = 10_000

abbrev pub rate_weight : ℕ
rate_weight = 20_000_000_010_000

abbrev pub rank : Offer → ℤ
rank o = o.rate *ℤ pos rate_weight -ℤ (o.base *ℤ pos base_weight +ℤ o.number)

-- no rank reaches it
abbrev pub most_rank : ℕ
most_rank = 4_000_000_000_000_000_000

rank_parts : (r b n : ℤ) →
    pos_part (r *ℤ pos rate_weight -ℤ (b *ℤ pos base_weight +ℤ n)) + (rate_weight * neg_part r + (base_weight * pos_part b + pos_part n))
    ≡ neg_part (r *ℤ pos rate_weight -ℤ (b *ℤ pos base_weight +ℤ n)) + (rate_weight * pos_part r + (base_weight * neg_part b + neg_part n))
rank_parts r b n =
    omega (
      arith,
      sub_parts (r *ℤ pos rate_weight) (b *ℤ pos base_weight +ℤ n),
      add_parts (b *ℤ pos base_weight) n,
      mul_p r (pos rate_weight),
      mul_n r (pos rate_weight),
      mul_p b (pos base_weight),
      mul_n b (pos base_weight),
    )

-- ---- falling rank is the order

module _ (a b : Offer) (ha : T (offer_in_range a)) (hb : T (offer_in_range b)) where
  pub ahead_rank : Ahead a b → T (lt_z (rank b) (rank a))
  ahead_rank (by_rate_lem t) =
      let (l, h) = range_parts (pos 1) a.number (pos 9_999) (number_of_lem a ha) in
      let (l', h') = range_parts (pos 1) b.number (pos 9_999) (number_of_lem b hb) in
      omega (arith, int_rules, rank_parts a.rate a.base a.number, rank_parts b.rate b.base b.number, base_of_lem a ha, base_of_lem b hb)
  ahead_rank (by_base e t) =
      let (l, h) = range_parts (pos 1) a.number (pos 9_999) (number_of_lem a ha) in
      let (l', h') = range_parts (pos 1) b.number (pos 9_999) (number_of_lem b hb) in
      omega (arith, int_rules, rank_parts a.rate a.base a.number, rank_parts b.rate b.base b.number)
  ahead_rank (by_number e d t) = omega (arith, int_rules, rank_parts a.rate a.base a.number, rank_parts b.rate b.base b.number)

pub irrefl : {z y : ℤ} → z ≡ y → T (lt_z y z) → ⊥
irrefl e t = omega (arith, int_rules)

-- ---- sizes: the rank, and what the code computes on the way to it

pub rank_small : (o : Offer) → T (offer_in_range o) → T (lt_z (rank o) (pos most_rank))
rank_small o t =
    let (l, h) = range_parts (pos 1) o.number (pos 9_999) (number_of_lem o t) in
    omega (arith, int_rules, rank_parts o.rate o.base o.number, base_of_lem o t, rate_of_lem o t)

module _ (o : Offer) (t : T (offer_in_range o)) where
  pub scaled_base_fits : SFits w64 (o.base *ℤ pos base_weight)
  scaled_base_fits = fits (o.base *ℤ pos base_weight) (omega (arith, nat_abs_mul o.base (pos base_weight), base_size o.base (base_of_lem o t)))

  pub behind_fits : SFits w64 (o.base *ℤ pos base_weight +ℤ o.number)
  behind_fits =
      fits (o.base *ℤ pos base_weight +ℤ o.number)
      (omega (
        arith,
        nat_abs_add (o.base *ℤ pos base_weight) o.number,
        nat_abs_mul o.base (pos base_weight),
        base_size o.base (base_of_lem o t),
        (number_size o.number (number_of_lem o t)).1,
      ))

  pub scaled_rate_fits : SFits w64 (o.rate *ℤ pos rate_weight)
  scaled_rate_fits = fits (o.rate *ℤ pos rate_weight) (omega (arith, nat_abs_mul o.rate (pos rate_weight), rate_size o.rate (rate_of_lem o t)))

  pub rank_fits : SFits w64 (rank o)
  rank_fits =
      fits (rank o)
      (omega (
        arith,
        nat_abs_sub (o.rate *ℤ pos rate_weight) (o.base *ℤ pos base_weight +ℤ o.number),
        nat_abs_add (o.base *ℤ pos base_weight) o.number,
        nat_abs_mul o.rate (pos rate_weight),
        nat_abs_mul o.base (pos base_weight),
        rate_size o.rate (rate_of_lem o t),
        base_size o.base (base_of_lem o t),
        (number_size o.number (number_of_lem o t)).1,
      ))
