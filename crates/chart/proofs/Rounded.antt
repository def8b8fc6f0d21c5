-- The numbers of a sound book's marks are exact as doubles.
use Rattle.std.specs.Prelude.{refl, T}
use mathlib.Core.List.Pairwise
use mathlib.Core.List.{List, [], ◌∷◌, Memᴰ, Pairwise, rel_of_Pairwise-cons}
use Rattle.std.proofs.Common.{arith}
use Rattle.lists.specs.Places.{sublist_mem}
use Rattle.integers.specs.Magnitude.{nat_abs_within}
use Rattle.offers.specs.Offers.{Offer, offer_in_range, precedes, crossing_numerator, crossing_denominator}
use Rattle.offers.specs.Sizes.{rate_of_lem, rate_size}
use Rattle.plain.specs.Book.{State, envelope}
use Rattle.plain.specs.Sound.{Sound}
use Rattle.plain.proofs.ListingLaws.{envelope_sub, envelope_falls}
use Rattle.marks.proofs.QuotientLaws.{doubled, quotient_is}
use Rattle.marks.specs.Crossings.{scaled_price, load_divisible, price_divisible}
use Rattle.chart.specs.Promises.{ExactEnd, ExactCrossing, Exact}

exact_end : (o : Offer) → T (offer_in_range o) → ExactEnd o
exact_end o h = (doubled o.rate).exactly (nat_abs_within 9_007_199_254_740_991 o.rate (omega (arith, rate_size o.rate (rate_of_lem o h))))

exact_crossing : (a b : Offer) → T (offer_in_range a) → T (offer_in_range b) → T (precedes a b) → ExactCrossing a b
exact_crossing a b h k p =
    record {
      load_exact = load_divisible a b h k p;
      load = quotient_is (crossing_numerator a b) (crossing_denominator a b);
      price_exact = price_divisible a b h k p;
      price = quotient_is (scaled_price a b) (crossing_denominator a b);
    }

exact_all : (es : List Offer) → ((o : Offer) → Memᴰ o es → T (offer_in_range o)) → Pairwise (λ a b. T (precedes a b)) es → Exact es
exact_all [] r f = tt
exact_all (o ∷ []) r f = exact_end o (r o (Memᴰ.head refl))
exact_all (o ∷ p ∷ es) r f = (
  exact_end o (r o (Memᴰ.head refl)),
  exact_crossing o p (r o (Memᴰ.head refl)) (r p (Memᴰ.tail (Memᴰ.head refl))) (rel_of_Pairwise-cons f ∣ Memᴰ.head refl ∣₁),
  exact_all (p ∷ es) (λ x m. r x (Memᴰ.tail m)) (Pairwise.of_cons f),
)

pub sound_exact : (s : State) → Sound s → Exact (envelope s.offers)
sound_exact s h =
    exact_all (envelope s.offers) (λ o j. h.ranged o (sublist_mem (envelope_sub s.offers) j)) (envelope_falls s.offers)
