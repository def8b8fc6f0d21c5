-- Offers and loads (docs/REQUIREMENTS.md, 2). Every number here is an integer of any size; the ranges say which are accepted.
use Rattle.std.specs.Prelude.{ℕ, suc, Bool, ◌&&◌, ◌||◌, ℤ, pos, neg_ℤ, ◌+ℤ◌, ◌-ℤ◌, ◌*ℤ◌}
use Rattle.std.specs.Int.Signed.{le_z, lt_z}
use Rattle.integers.specs.Equal.{equal}

pub record Offer : Type 0 where
  pub number : ℤ
  -- cents per kilogram
  pub rate : ℤ
  -- cents
  pub base : ℤ

-- ---- ranges

abbrev pub between : ℤ → ℤ → ℤ → Bool
between low high z = le_z low z && le_z z high

-- from −n to n
abbrev pub within : ℕ → ℤ → Bool
within n z = between (neg_ℤ (pos n)) (pos n) z

abbrev pub number_in_range : ℤ → Bool
number_in_range z = between (pos 1) (pos 9_999) z

abbrev pub rate_in_range : ℤ → Bool
rate_in_range z = within 100_000 z

abbrev pub base_in_range : ℤ → Bool
base_in_range z = within 1_000_000_000 z

-- whole kilograms over or under the run's standard load
abbrev pub load_in_range : ℤ → Bool
load_in_range z = within 1_000_000 z

-- the span of a voucher's price
abbrev pub price_in_range : ℤ → Bool
price_in_range z = within 101_000_000_000 z

abbrev pub offer_in_range : Offer → Bool
offer_in_range o = number_in_range o.number && rate_in_range o.rate && base_in_range o.base

-- ---- prices

abbrev pub price_at : Offer → ℤ → ℤ
price_at o q = o.base +ℤ o.rate *ℤ q

-- A rational load: N over D, whole numbers with D above 0. `above` is D − 1.
pub record RationalLoad : Type 0 where
  pub numerator : ℤ
  pub above : ℕ

abbrev pub denominator : RationalLoad → ℤ
denominator x = pos (suc x.above)

-- The price at a rational load, times its D: prices at one load are compared so.
abbrev pub price_times_d : Offer → RationalLoad → ℤ
price_times_d o x = o.base *ℤ denominator x +ℤ o.rate *ℤ x.numerator

-- ---- the order of offers, and crossings

-- The first has the higher rate.
abbrev pub precedes : Offer → Offer → Bool
precedes a b = lt_z b.rate a.rate

-- Offers are ordered by falling rate, then rising base, then rising number.
abbrev pub ahead : Offer → Offer → Bool
ahead a b =
    precedes a b
    || equal a.rate b.rate && (lt_z a.base b.base || equal a.base b.base && lt_z a.number b.number)

-- The crossing of an offer with the next, unreduced.
abbrev pub crossing_numerator : Offer → Offer → ℤ
crossing_numerator own next = next.base -ℤ own.base

abbrev pub crossing_denominator : Offer → Offer → ℤ
crossing_denominator own next = own.rate -ℤ next.rate
