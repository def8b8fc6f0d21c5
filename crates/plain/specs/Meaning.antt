-- What a query, a listing and a report tell of a list of live offers, in the words of docs/REQUIREMENTS.md (3) and with no way of computing it.
-- `MeaningLaws` proves them of the plain book; `demand-2` (theorems) of the calls on a table.
use Rattle.std.specs.Prelude.{◌≡◌, ◌≢◌, ◌↔◌, not, ℕ, suc, ◌+◌, ◌*◌, ◌<◌, length, get_or, T, ℤ, pos}
use mathlib.Core.List.{List, ◌∷◌, Memᴰ, Pairwise}
use Rattle.std.specs.Int.Signed.{le_z, lt_z}
use Rattle.offers.specs.Offers.{Offer, RationalLoad, price_at, price_times_d, precedes, ahead, crossing_numerator, crossing_denominator}

-- ---- a query

-- The offer stands in the list, and none before it has its price at the load and its rate.
pub data Earliest (q : ℤ) (o : Offer) : List Offer → Type 0 where
  here : {os : List Offer} → Earliest q o (o ∷ os)
  later : {x : Offer} {os : List Offer} → (price_at x q ≡ price_at o q → x.rate ≢ o.rate) → Earliest q o os → Earliest q o (x ∷ os)

-- A live offer of this number has this price at the load; of those with this price and its rate it is the first in order.
pub record Priced (os : List Offer) (q number price : ℤ) : Type 0 where
  pub offer : Offer
  pub earliest : Earliest q offer os
  pub named : number ≡ offer.number
  pub priced : price ≡ price_at offer q

-- The least price at the load, the number of the first offer with the lowest rate at that price, and of the first with the highest.
pub record Cheapest (os : List Offer) (q number price second : ℤ) : Type 0 where
  pub least : (x : Offer) → Memᴰ x os → T (le_z price (price_at x q))
  pub one : Priced os q number price
  pub lowest : (x : Offer) → Memᴰ x os → price_at x q ≡ price → T (le_z one.offer.rate x.rate)
  pub other : Priced os q second price
  pub highest : (x : Offer) → Memᴰ x os → price_at x q ≡ price → T (le_z x.rate other.offer.rate)

-- ---- a listing

-- The live offer is the first of its rate: no other of that rate stands ahead of it.
pub record FirstOfRate (os : List Offer) (e : Offer) : Type 0 where
  pub live : Memᴰ e os
  pub first : (o : Offer) → Memᴰ o os → o.rate ≡ e.rate → T (not (ahead o e))

-- At the load, the first of its rate is strictly cheaper than every live offer of another rate.
pub record CheaperThanOthers (os : List Offer) (e : Offer) (x : RationalLoad) : Type 0 where
  pub first : FirstOfRate os e
  pub cheaper : (o : Offer) → Memᴰ o os → o.rate ≢ e.rate → T (lt_z (price_times_d e x) (price_times_d o x))

-- Number, numerator and denominator of piece i stand at 3 i, 3 i + 1 and 3 i + 2; of a reported offer number, rate and base.
pub record PieceAt (ws : List ℤ) (i : ℕ) (number numerator denominator : ℤ) : Type 0 where
  pub first : get_or ws (3 * i) (pos 0) ≡ number
  pub second : get_or ws (3 * i + 1) (pos 0) ≡ numerator
  pub third : get_or ws (3 * i + 2) (pos 0) ≡ denominator

-- The words of m pieces: in order, exactly the offers that are the first of their rate and at some rational load, of any size, strictly cheaper than
-- every offer of another rate, each with its crossing with the next. The last carries 0 and 0. (`d` is read nowhere: it is what `get_or` gives off the
-- list.)
pub record Listing (os : List Offer) (m : ℕ) (ws : List ℤ) : Type 0 where
  pub pieces : List Offer
  pub many : length pieces ≡ m
  pub long : length ws ≡ 3 * m
  pub in_order : Pairwise (λ a b. T (precedes a b)) pieces
  pub exact : (e : Offer) → Memᴰ e pieces ↔ ((x : RationalLoad) × CheaperThanOthers os e x)
  pub inner :
      (i : ℕ) (d : Offer) → suc i < m →
      PieceAt ws i (get_or pieces i d).number (crossing_numerator (get_or pieces i d) (get_or pieces (suc i) d))
      (crossing_denominator (get_or pieces i d) (get_or pieces (suc i) d))
  pub last : (i : ℕ) (d : Offer) → suc i ≡ m → PieceAt ws i (get_or pieces i d).number (pos 0) (pos 0)

-- ---- a report

-- The words of m offers: in order, exactly the live offers whose price at the load is strictly below p, number, rate and base each. In order none stands
-- twice: each is strictly ahead of all later ones, by falling rate, then rising base, then rising number.
pub record Report (os : List Offer) (q p : ℤ) (m : ℕ) (ws : List ℤ) : Type 0 where
  pub offers : List Offer
  pub many : length offers ≡ m
  pub long : length ws ≡ 3 * m
  pub in_order : Pairwise (λ a b. T (ahead a b)) offers
  pub exact : (o : Offer) → Memᴰ o offers ↔ (Memᴰ o os × T (lt_z (price_at o q) p))
  pub told : (i : ℕ) (d : Offer) → i < m → PieceAt ws i (get_or offers i d).number (get_or offers i d).rate (get_or offers i d).base
