-- Theorems on specs/OfferLines.
use Rattle.std.specs.Prelude.{◌≡◌, refl, ◌↔◌, T, ℤ, ◌+ℤ◌, ◌*ℤ◌}
use Rattle.std.specs.Int.Signed.{le_z, lt_z}
use Rattle.integers.specs.Parts.{not_le_is_lt}
use Rattle.offers.specs.Offers.{Offer, RationalLoad, denominator, price_at, price_times_d, precedes, crossing_numerator, crossing_denominator}
use Rattle.envelopes.specs.PseudoLines.{Figure, PseudoLines, LeftOf, Below}
use Rattle.lines.specs.Lines.{line_figure, cross_denominator, whole, whole_price}
use Rattle.lines.proofs.Lines.{line_laws, whole_left, cross_left, price_at_cross}
use Rattle.lines.specs.OfferLines.{offer_figure}

pub offer_laws : PseudoLines offer_figure
offer_laws = line_laws Offer (λ o. o.rate) (λ o. o.base)

-- ---- of offers in order
pub denominator_is : (a b : Offer) → T (precedes a b) → denominator (offer_figure.cross a b) ≡ crossing_denominator a b
denominator_is a b h = cross_denominator Offer (λ o. o.rate) (λ o. o.base) a b h

-- a query's test: the load is at or left of the crossing
pub query_test : (a b : Offer) (q : ℤ) → T (precedes a b) →
    offer_figure.up_to (whole q) (offer_figure.cross a b) ≡ le_z (q *ℤ crossing_denominator a b) (crossing_numerator a b)
query_test a b q h = whole_left Offer (λ o. o.rate) (λ o. o.base) a b q h

-- the comparison of two crossings
pub crossing_test : (a b c d : Offer) → T (precedes a b) → T (precedes c d) →
    offer_figure.up_to (offer_figure.cross a b) (offer_figure.cross c d) ≡ le_z (crossing_numerator a b *ℤ crossing_denominator c d)
    (crossing_numerator c d *ℤ crossing_denominator a b)
crossing_test a b c d h k = cross_left Offer (λ o. o.rate) (λ o. o.base) a b c d h k

-- two offers' prices at the crossing of a and b
pub price_test : (l m a b : Offer) → T (precedes a b) → offer_figure.at_most l m (offer_figure.cross a b) ≡ le_z
    (l.base *ℤ crossing_denominator a b +ℤ l.rate *ℤ crossing_numerator a b) (m.base *ℤ crossing_denominator a b +ℤ m.rate *ℤ crossing_numerator a b)
price_test l m a b h = price_at_cross Offer (λ o. o.rate) (λ o. o.base) l m a b h

pub strictly_left : (a b c d : Offer) → T (precedes a b) → T (precedes c d) →
    LeftOf offer_figure (offer_figure.cross a b) (offer_figure.cross c d) ↔ T
    (lt_z (crossing_numerator a b *ℤ crossing_denominator c d) (crossing_numerator c d *ℤ crossing_denominator a b))
strictly_left a b c d h k =
    rw (crossing_test c d a b k h) (not_le_is_lt (crossing_numerator c d *ℤ crossing_denominator a b) (crossing_numerator a b *ℤ crossing_denominator c d))
