-- The listing names an offer exactly when it is the first of its rate and at some rational load, of any size, strictly cheaper than every offer of
-- another rate.
use Rattle.std.specs.Prelude.{◌≡◌, ◌↔◌, not, ◌&&◌, ◌||◌, suc, T, ℤ, ◌*ℤ◌}
use Rattle.std.proofs.Common.{sym, ◌∙◌, ap, arith}
use Rattle.std.proofs.Math.Path.{fun_ext}
use mathlib.Core.List.Pairwise
use mathlib.Core.List.Sublistᴰ
use mathlib.Core.List.{List, Memᴰ, Sublistᴰ, Pairwise}
use Rattle.std.specs.Int.Signed.{le_z, lt_z}
use Rattle.lists.specs.Filter.{every, keep, keep_sublist}
use Rattle.lists.specs.Firsts.{firsts_sub, firsts_pairs}
use Rattle.lists.specs.Places.{sublist_mem}
use Rattle.lists.specs.Bools.{as_one_test, same_test}
use Rattle.integers.specs.Parts.{int_rules, add_parts}
use Rattle.integers.specs.Ring.{mul_le}
use Rattle.offers.specs.Offers.{Offer, RationalLoad, denominator, price_times_d, precedes, ahead, crossing_numerator, crossing_denominator}
use Rattle.offers.specs.Order.{by_rate_lem, ahead_meant, base_rises}
use Rattle.envelopes.specs.Envelope.{Ordered, Cheapest, Env, listed}
use Rattle.envelopes.proofs.Listed.{listed_exact, listed_env}
use Rattle.lines.specs.OfferLines.{offer_figure, strictly_cheaper}
use Rattle.lines.proofs.OfferLines.{offer_laws, crossing_test}
use Rattle.plain.specs.Book.{envelope, lower_envelope, first_of_each, turns}
use Rattle.plain.specs.Meaning.{CheaperThanOthers}
use Rattle.plain.specs.FirstLaws.{self, Standing, pairs_standing, pairs_ordered, firsts_ordered, one_of_rate, cover}
use Rattle.plain.specs.FirstLaws.{first_said, first_meant, first_of_rate}

-- ---- the plain listing is the listing of the offers' lines

lt_as_le : (a b : ℤ) → lt_z a b ≡ not (le_z b a)
lt_as_le a b = same_test (lt_z a b) (not (le_z b a)) (λ t. omega (arith, int_rules)) (λ t. omega (arith, int_rules))

lower_listed : (os : List Offer) → lower_envelope os ≡ listed offer_figure os
unfolding listed
lower_listed os = ap (λ test. keep test os) (fun_ext λ e. ap (λ test. every test os) (fun_ext λ a. ap (λ test. every test os) (fun_ext λ c. same a e c)))
  where
    same :
        (a e c : Offer) →
        (not (precedes a e && precedes e c) || turns a e c) ≡ not (precedes a e && precedes e c && offer_figure.up_to (offer_figure.cross e c)
        (offer_figure.cross a e))
    same a e c =
        as_one_test (precedes a e) (precedes e c) (turns a e c) (offer_figure.up_to (offer_figure.cross e c) (offer_figure.cross a e))
        (λ p q. lt_as_le (crossing_numerator a e *ℤ crossing_denominator e c) (crossing_numerator e c *ℤ crossing_denominator a e)
        ∙ ap not (sym (crossing_test e c a e q p)))

pub envelope_listed : (os : List Offer) → envelope os ≡ listed offer_figure (first_of_each os)
envelope_listed os = lower_listed (first_of_each os)

-- ---- the first offers of their rates stand in order

pub in_order : {os : List Offer} → Pairwise (λ a b. T (precedes a b)) os → Ordered offer_figure os
in_order h = pairs_ordered h

pub firsts_in_order : (os : List Offer) → Ordered offer_figure (first_of_each os)
firsts_in_order os = firsts_ordered Offer self os

-- so no two have one rate
pub same_rate : (os : List Offer) {o p : Offer} → Memᴰ o (first_of_each os) → Memᴰ p (first_of_each os) → o.rate ≡ p.rate → o ≡ p
same_rate os m n e = one_of_rate Offer self os m n e

-- falling rates are in order
pub falling_ahead : {os : List Offer} → Pairwise (λ a b. T (precedes a b)) os → Pairwise (λ a b. T (ahead a b)) os
falling_ahead h = Pairwise.imp (λ a b t. ahead_meant a b (by_rate_lem t)) h

-- ---- the pieces are live offers of falling rates

pub envelope_sub : (os : List Offer) → Sublistᴰ (envelope os) os
envelope_sub os = Sublistᴰ.trans (keep_sublist _ (first_of_each os)) (firsts_sub precedes os)

pub envelope_falls : (os : List Offer) → Pairwise (λ a b. T (precedes a b)) (envelope os)
envelope_falls os = Pairwise.sublistᴰ (keep_sublist _ (first_of_each os)) (firsts_pairs precedes os)

-- ---- the listing is exact

-- of one rate the lower base is the lower price everywhere
no_dearer : (a b : Offer) (x : RationalLoad) → a.rate ≡ b.rate → T (le_z a.base b.base) → T (le_z (price_times_d a x) (price_times_d b x))
no_dearer a b x r h =
    let k : T (le_z (a.base *ℤ denominator x) (b.base *ℤ denominator x)) = mul_le (suc x.above) a.base b.base h in
    let e : a.rate *ℤ x.numerator ≡ b.rate *ℤ x.numerator = ap (λ (z : ℤ). z *ℤ x.numerator) r in
    omega (arith, int_rules, add_parts (a.base *ℤ denominator x) (a.rate *ℤ x.numerator), add_parts (b.base *ℤ denominator x) (b.rate *ℤ x.numerator))

pub listing_exact :
    (os : List Offer) → Pairwise (λ a b. T (ahead a b)) os → (e : Offer) → Memᴰ e (envelope os) ↔ ((x : RationalLoad) × CheaperThanOthers os e x)
listing_exact os h e = rw (envelope_listed os) (λ m. said (exact.0 m), λ w. exact.1 (meant w))
  where
    s : Standing Offer self os
    s = pairs_standing Offer self h

    exact : Memᴰ e (listed offer_figure (first_of_each os)) ↔ ((x : RationalLoad) × Cheapest offer_figure (first_of_each os) e x)
    exact = listed_exact offer_figure offer_laws (first_of_each os) (firsts_in_order os) e

    less : (p q r : ℤ) → T (lt_z p q) → T (le_z q r) → T (lt_z p r)
    less p q r t u = omega (arith, int_rules)

    -- an offer of another rate costs no less than the first of that rate
    said : ((x : RationalLoad) × Cheapest offer_figure (first_of_each os) e x) → (x : RationalLoad) × CheaperThanOthers os e x
    said (x, w) = (
      x,
      record {
        first = (first_of_rate os e).0 (first_said Offer self s e w.one_of);
        cheaper = λ o m d.
            let c = cover Offer self s o m in
            less (price_times_d e x) (price_times_d c.by x) (price_times_d o x)
            ((strictly_cheaper e c.by x).0 (w.below c.by c.one_of (λ q. d (sym c.rate ∙ ap (λ (p : Offer). p.rate) q))))
            (no_dearer c.by o x c.rate (base_rises c.no_later c.rate));
      },
    )

    meant : ((x : RationalLoad) × CheaperThanOthers os e x) → (x : RationalLoad) × Cheapest offer_figure (first_of_each os) e x
    meant (x, w) =
        let i = first_meant Offer self s e ((first_of_rate os e).1 w.first) in (
          x,
          record {
            one_of = i;
            below = λ o m d. (strictly_cheaper e o x).1 (w.cheaper o (sublist_mem (firsts_sub precedes os) m) (λ r. d (same_rate os m i r)));
          },
        )

-- The listing is the lower envelope of the first offers of their rates.
pub envelope_env : (os : List Offer) → Env offer_figure (first_of_each os) (envelope os)
envelope_env os = rw (envelope_listed os) (listed_env offer_figure offer_laws (first_of_each os) (firsts_in_order os))
