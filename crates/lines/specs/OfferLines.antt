-- Offers as lines: the figure's tests are the comparisons of docs/REQUIREMENTS.md, 2.4.
use Rattle.std.specs.Prelude.{◌≡◌, refl, ◌↔◌, T, ℤ, ◌+ℤ◌, ◌*ℤ◌}
use Rattle.std.specs.Int.Signed.{le_z, lt_z}
use Rattle.integers.specs.Parts.{not_le_is_lt}
use Rattle.offers.specs.Offers.{Offer, RationalLoad, denominator, price_at, price_times_d, precedes, crossing_numerator, crossing_denominator}
use Rattle.envelopes.specs.PseudoLines.{Figure, PseudoLines, LeftOf, Below}
use Rattle.lines.specs.Lines.{line_figure, cross_denominator, whole, whole_price}

abbrev pub offer_figure : Figure
offer_figure = line_figure Offer (λ o. o.rate) (λ o. o.base)

-- ---- by computation

pub at_most_is : (a b : Offer) (x : RationalLoad) → offer_figure.at_most a b x ≡ le_z (price_times_d a x) (price_times_d b x)
at_most_is a b x = refl

pub before_is : (a b : Offer) → offer_figure.before a b ≡ precedes a b
before_is a b = refl

pub numerator_is : (a b : Offer) → (offer_figure.cross a b).numerator ≡ crossing_numerator a b
numerator_is a b = refl

-- ---- of offers in order

-- at a whole load, the comparison of prices
pub at_most_whole : (a b : Offer) (q : ℤ) → offer_figure.at_most a b (whole q) ≡ le_z (price_at a q) (price_at b q)
at_most_whole a b q = whole_price Offer (λ o. o.rate) (λ o. o.base) a b q

-- ---- strictly

pub strictly_cheaper : (a b : Offer) (x : RationalLoad) → Below offer_figure a b x ↔ T (lt_z (price_times_d a x) (price_times_d b x))
strictly_cheaper a b x = not_le_is_lt (price_times_d b x) (price_times_d a x)
