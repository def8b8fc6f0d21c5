-- Which entry of a call is out of range (docs/REQUIREMENTS.md, 13): the number that names it, and that a call is refused with such a number exactly
-- then. Every other refusal has a number from 5 to 10, and not 6, or 17: by what the book holds or remembers, or by the output's length.
use Rattle.std.specs.Prelude.{◌≡◌, refl, ◌⊎◌, ◌≢◌, not, List, [], ◌∷◌, ℕ, ◌≤◌, ℤ, T}
use Rattle.std.proofs.Common.{◌∙◌, ap, subst, inl, inr, ⊎_elim, arith}
use Rattle.std.proofs.Math.Option.{Option, none, some}
use Rattle.lists.specs.Bools.{twice, not_not}
use Rattle.offers.specs.Offers.{Offer, number_in_range, rate_in_range, base_in_range, load_in_range, price_in_range}
use Rattle.plain.specs.Causes.{Cause, capacity_out_of_range, table_too_short, no_book, number_out_of_range, rate_out_of_range, base_out_of_range, load_out_of_range}
use Rattle.plain.specs.Causes.{price_out_of_range, number_live, book_full, number_not_live, book_empty, output_too_short, unreadable_line, rates_not_apart}
use Rattle.plain.specs.Causes.{no_such_mark, nothing_to_take_back, cause_number, declined, FirstOf, at_once, further}
use Rattle.plain.specs.Book.{State, Undo, Call, post, withdraw, query, listing, take_back, report, Answer, refused, live, found, listed, reported}
use Rattle.plain.specs.Book.{range_trials, book_trials, trials, recalling, respond, accepted, step}
use Rattle.plain.specs.Trials.{declined_first, first_append}
use Rattle.plain.specs.Rules.{refusing}

-- The number names the call's first entry that is out of range: 4 the offer's number or the price, 14 the rate, 15 the base, 16 the load.
pub data Names : ℕ → Call → Type 0 where
  posted_number : {n r b : ℤ} → T (not (number_in_range n)) → Names 4 (post n r b)
  posted_rate : {n r b : ℤ} → T (number_in_range n) → T (not (rate_in_range r)) → Names 14 (post n r b)
  posted_base : {n r b : ℤ} → T (number_in_range n) → T (rate_in_range r) → T (not (base_in_range b)) → Names 15 (post n r b)
  withdrawn_number : {n : ℤ} → T (not (number_in_range n)) → Names 4 (withdraw n)
  asked_load : {q : ℤ} → T (not (load_in_range q)) → Names 16 (query q)
  reported_price : {q p : ℤ} {room : ℕ} → T (not (price_in_range p)) → Names 4 (report q p room)
  reported_load : {q p : ℤ} {room : ℕ} → T (price_in_range p) → T (not (load_in_range q)) → Names 16 (report q p room)

-- it is that of the first trial of the ranges that applies
pub names_first : {m : ℕ} {k : Call} → Names m k → (z : Cause) × FirstOf (range_trials k) z × (cause_number z ≡ m)
names_first (posted_number x) = (number_out_of_range, at_once x, refl)
names_first (posted_rate {n} i x) = (rate_out_of_range, further (twice (number_in_range n) i) (at_once x), refl)
names_first (posted_base {n} {r} i j x) = (base_out_of_range, further (twice (number_in_range n) i) (further (twice (rate_in_range r) j) (at_once x)), refl)
names_first (withdrawn_number x) = (number_out_of_range, at_once x, refl)
names_first (asked_load x) = (load_out_of_range, at_once x, refl)
names_first (reported_price x) = (price_out_of_range, at_once x, refl)
names_first (reported_load {q} {p} i x) = (load_out_of_range, further (twice (price_in_range p) i) (at_once x), refl)

-- ---- a call with an entry out of range is refused with its number

-- ---- and a refusal tells no such number otherwise

abbrev pub Otherwise : ℕ → Type 0
Otherwise m = (5 ≤ m) × (m ≢ 6) × ((m ≤ 10) ⊎ (m ≡ 17))

pub by_cause : (s : State) (k : Call) (z : Cause) → FirstOf (trials s k) z → Otherwise (cause_number z) ⊎ Names (cause_number z) k
by_cause s (post n r b) z (further i (further j (further l (further p (further _ x25))))) = elim x25 [ ]
by_cause s (withdraw n) z (further i (further j x13)) = elim x13 [ ]
by_cause s (query q) z (further i (further j x14)) = elim x14 [ ]
by_cause s (listing room) z (further i x11) = elim x11 [ ]
by_cause s take_back z (further i x12) = elim x12 [ ]
by_cause s (report q p room) z (further i (further j (further l x21))) = elim x21 [ ]
by_cause s (post n r b) z (at_once x) = inr (posted_number x)
by_cause s (post n r b) z (further i (at_once x)) = inr (posted_rate (not_not (number_in_range n) i) x)
by_cause s (post n r b) z (further i (further j (at_once x))) = inr (posted_base (not_not (number_in_range n) i) (not_not (rate_in_range r) j) x)
by_cause s (post n r b) z (further i (further j (further l (at_once x)))) = inl (omega arith, omega arith, inl (omega arith))
by_cause s (post n r b) z (further i (further j (further l (further p (at_once x))))) = inl (omega arith, omega arith, inl (omega arith))
by_cause s (withdraw n) z (at_once x) = inr (withdrawn_number x)
by_cause s (withdraw n) z (further i (at_once x)) = inl (omega arith, omega arith, inl (omega arith))
by_cause s (query q) z (at_once x) = inr (asked_load x)
by_cause s (query q) z (further i (at_once x)) = inl (omega arith, omega arith, inl (omega arith))
by_cause s (listing room) z (at_once x) = inl (omega arith, omega arith, inl (omega arith))
by_cause s take_back z (at_once x) = inl (omega arith, omega arith, inr refl)
by_cause s (report q p room) z (at_once x) = inr (reported_price x)
by_cause s (report q p room) z (further i (at_once x)) = inr (reported_load (not_not (price_in_range p) i) x)
by_cause s (report q p room) z (further i (further j (at_once x))) = inl (omega arith, omega arith, inl (omega arith))

-- the number of a refusal; 5 for an accepted call
unfoldable pub number_in : Answer → ℕ
number_in (refused n) = n
number_in (live n) = 5
number_in (found n p m) = 5
number_in (listed n ws) = 5
number_in (reported n ws) = 5

-- ---- 6 is told no more

-- no cause has number 6
pub never_six : (c : Cause) → cause_number c ≢ 6
never_six capacity_out_of_range e = omega arith
never_six table_too_short e = omega arith
never_six no_book e = omega arith
never_six number_out_of_range e = omega arith
never_six rate_out_of_range e = omega arith
never_six base_out_of_range e = omega arith
never_six load_out_of_range e = omega arith
never_six price_out_of_range e = omega arith
never_six number_live e = omega arith
never_six book_full e = omega arith
never_six number_not_live e = omega arith
never_six book_empty e = omega arith
never_six output_too_short e = omega arith
never_six unreadable_line e = omega arith
never_six rates_not_apart e = omega arith
never_six no_such_mark e = omega arith
never_six nothing_to_take_back e = omega arith

pub names_other : {m : ℕ} {k : Call} → Names m k → m ≢ 6
names_other (posted_number x) e = omega arith
names_other (posted_rate i x) e = omega arith
names_other (posted_base i j x) e = omega arith
names_other (withdrawn_number x) e = omega arith
names_other (asked_load x) e = omega arith
names_other (reported_price x) e = omega arith
names_other (reported_load i x) e = omega arith
