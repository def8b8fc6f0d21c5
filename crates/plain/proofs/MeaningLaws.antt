-- The plain book's query, listing and report tell what `Meaning` says, whatever calls made its offers.
use Rattle.std.specs.Prelude.{◌≡◌, refl, Bool, ℕ, length, T, ℤ}
use Rattle.std.proofs.Common.{sym, ◌∙◌, ap, arith}
use mathlib.Core.List.Pairwise
use mathlib.Core.List.{List, [], ◌∷◌, Memᴰ, Pairwise}
use Rattle.std.proofs.Math.Option.{Option, none, some}
use Rattle.std.specs.Int.Signed.{lt_z}
use Rattle.lists.specs.Filter.{keep_sublist, keep_passes, keep_in}
use Rattle.lists.specs.Places.{sublist_mem}
use Rattle.integers.specs.Parts.{int_rules}
use Rattle.offers.specs.Offers.{Offer, price_at, ahead}
use Rattle.plain.specs.Causes.{Cause, declined}
use Rattle.plain.specs.Book.{State, query, listing, report, found, listed, reported, lower, higher, cheapest, holding, envelope, piece_words}
use Rattle.plain.specs.Book.{under, offer_words, respond, trials, step}
use Rattle.plain.specs.Sound.{Sound}
use Rattle.plain.specs.Meaning.{Cheapest, Listing, Report}
use Rattle.plain.specs.Rules.{words_length, words_inner, words_last, offers_length, offers_at_lem}
use Rattle.plain.specs.QueryLaws.{lower_tie, higher_tie, Names, cheapest_names, earliest_live, earliest_once, cheapest_earliest}
use Rattle.plain.proofs.ListingLaws.{envelope_falls, listing_exact}

-- ---- a query

cheapest_told : (q : ℤ) (o : Offer) (os : List Offer) →
    Cheapest (o ∷ os) q (cheapest lower q o os).number (price_at (cheapest lower q o os) q) (cheapest higher q o os).number
cheapest_told q o os =
    record {
      least = λ x m. (one.none_first x m).least;
      one = record { offer = cheapest lower q o os; earliest = cheapest_earliest lower_tie q o os; named = refl; priced = refl };
      lowest = λ x m e. let h = (one.none_first x m).best e in omega (arith, int_rules);
      other = record { offer = cheapest higher q o os; earliest = cheapest_earliest higher_tie q o os; named = refl; priced = same };
      highest = λ x m e. let h = (other.none_first x m).best (e ∙ same) in omega (arith, int_rules);
    }
  where
    one : Names lower q (o ∷ os) (cheapest lower q o os)
    one = cheapest_names lower_tie q o os

    other : Names higher q (o ∷ os) (cheapest higher q o os)
    other = cheapest_names higher_tie q o os

    -- each of the two is at most the other
    same : price_at (cheapest lower q o os) q ≡ price_at (cheapest higher q o os) q
    same = let h = (one.none_first _ other.live).least in let k = (other.none_first _ one.live).least in omega (arith, int_rules)

pub query_cheapest : (s : State) (q number price second : ℤ) → (step s (query q)).answer ≡ found number price second →
    Cheapest s.offers q number price second
query_cheapest s q number price second e = go (declined (trials s (query q))) s.offers e
  where
    go : (d : Option Cause) (os : List Offer) → (respond (holding s os) (query q) d).answer ≡ found number price second → Cheapest os q number price second
    go (some c) os a = let z : ◌≡◌ {A = ℕ} 0 1 = cc in absurd (omega arith)
    go none [] a = let z : ◌≡◌ {A = ℕ} 0 1 = cc in absurd (omega arith)
    go none (o ∷ os) a =
        let n : (cheapest lower q o os).number ≡ number = cc in
        let p : price_at (cheapest lower q o os) q ≡ price = cc in
        let m : (cheapest higher q o os).number ≡ second = cc in
        rw (← n, ← p, ← m) (cheapest_told q o os)

-- where the offers at the price have one rate, both are the same
pub one_rate : {os : List Offer} {q number price second : ℤ} (c : Cheapest os q number price second) →
    ((x y : Offer) → Memᴰ x os → Memᴰ y os → price_at x q ≡ price → price_at y q ≡ price → x.rate ≡ y.rate) →
    second ≡ number
one_rate c all = c.other.named ∙ ap (λ (o : Offer). o.number) same ∙ sym c.one.named
  where
    rates : c.other.offer.rate ≡ c.one.offer.rate
    rates =
        all c.other.offer c.one.offer (earliest_live c.other.earliest) (earliest_live c.one.earliest) (sym c.other.priced) (sym c.one.priced)

    same : c.other.offer ≡ c.one.offer
    same = earliest_once c.other.earliest c.one.earliest (sym c.other.priced ∙ c.one.priced) rates

-- ---- a listing

pub envelope_listing : (os : List Offer) → Pairwise (λ a b. T (ahead a b)) os → Listing os (length (envelope os)) (piece_words (envelope os))
envelope_listing os h =
    record {
      pieces = envelope os;
      many = refl;
      long = words_length (envelope os);
      in_order = envelope_falls os;
      exact = listing_exact os h;
      inner = words_inner (envelope os);
      last = words_last (envelope os);
    }

pub listing_listing : (s : State) (room m : ℕ) (ws : List ℤ) → Sound s → (step s (listing room)).answer ≡ listed m ws → Listing s.offers m ws
listing_listing s room m ws h e = go (declined (trials s (listing room))) e
  where
    go : (d : Option Cause) → (respond s (listing room) d).answer ≡ listed m ws → Listing s.offers m ws
    go (some c) a = let z : ◌≡◌ {A = ℕ} 0 1 = cc in absurd (omega arith)
    go none a =
        let many : length (envelope s.offers) ≡ m = cc in
        let words : piece_words (envelope s.offers) ≡ ws = cc in
        rw (← many, ← words) (envelope_listing s.offers h.ordered)

-- ---- a report

pub under_report : (os : List Offer) (q p : ℤ) → Pairwise (λ a b. T (ahead a b)) os → Report os q p (length (under q p os)) (offer_words (under q p os))
under_report os q p h =
    record {
      offers = under q p os;
      many = refl;
      long = offers_length (under q p os);
      in_order = Pairwise.sublistᴰ (keep_sublist below os) h;
      exact = λ o. (λ m. (sublist_mem (keep_sublist below os) m, keep_passes below os o m), λ k. keep_in below os o k.0 k.1);
      told = offers_at_lem (under q p os);
    }
  where
    below : Offer → Bool
    below o = lt_z (price_at o q) p

pub report_report : (s : State) (q p : ℤ) (room m : ℕ) (ws : List ℤ) → Sound s → (step s (report q p room)).answer ≡ reported m ws → Report s.offers q p m ws
report_report s q p room m ws h e = go (declined (trials s (report q p room))) e
  where
    go : (d : Option Cause) → (respond s (report q p room) d).answer ≡ reported m ws → Report s.offers q p m ws
    go (some c) a = let z : ◌≡◌ {A = ℕ} 0 1 = cc in absurd (omega arith)
    go none a =
        let many : length (under q p s.offers) ≡ m = cc in
        let words : offer_words (under q p s.offers) ≡ ws = cc in
        rw (← many, ← words) (under_report s.offers q p h.ordered)
