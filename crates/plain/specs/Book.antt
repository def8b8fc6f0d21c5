-- The plain book (docs/REQUIREMENTS.md, 3): a capacity, a list of live offers in order and a memory of what to take back, fed the calls' arguments,
-- an output's length with them, and no word of any table. Each call is first tried against the table of declined calls.
use Rattle.std.specs.Prelude.{ℕ, ◌+◌, ◌*◌, ◌-◌, List, [], ◌∷◌, ◌++◌, map, Bool, not, ◌&&◌, ◌||◌, cond, length, take, leb, ltb, ℤ, pos, nat_abs, ◌*ℤ◌}
use Rattle.std.proofs.Math.Option.{Option, none, some}
use Rattle.std.specs.Int.Signed.{lt_z}
use Rattle.lists.specs.Filter.{every, keep}
use Rattle.lists.specs.Firsts.{firsts}
use Rattle.lists.specs.Tests.{any}
use Rattle.integers.specs.Equal.{equal}
use Rattle.offers.specs.Offers.{Offer, between, number_in_range, rate_in_range, base_in_range, load_in_range, price_in_range, price_at, precedes, ahead}
use Rattle.offers.specs.Offers.{crossing_numerator, crossing_denominator}
use Rattle.plain.specs.Causes.{Cause, Trial, ◌when◌, declined, Clear, cause_number, capacity_out_of_range, table_too_short, number_out_of_range}
use Rattle.plain.specs.Causes.{rate_out_of_range, base_out_of_range, load_out_of_range, number_live, book_full, number_not_live, book_empty, output_too_short}
use Rattle.plain.specs.Causes.{price_out_of_range, nothing_to_take_back}

-- What undoes an accepted update: a posted offer goes out again, a withdrawn one comes back.
pub data Undo : Type 0 where
  unpost : (number : ℤ) → Undo
  restore : Offer → Undo

pub record State : Type 0 where
  pub capacity : ℕ
  -- the live offers in order: by falling rate, then rising base, then rising number
  pub offers : List Offer
  -- what undoes the updates that can be taken back, the last one first
  pub memory : List Undo

-- ---- the calls and their answers

pub data Call : Type 0 where
  post : (number rate base : ℤ) → Call
  withdraw : (number : ℤ) → Call
  query : (load : ℤ) → Call
  -- with the length of the lent output, in words
  listing : (room : ℕ) → Call
  take_back : Call
  -- with the length of the lent output, in words
  report : (load price : ℤ) (room : ℕ) → Call

pub data Answer : Type 0 where
  -- a declined call's number
  refused : ℕ → Answer
  -- the live count after a post, a withdrawal or a take-back
  live : ℕ → Answer
  -- the number of the offer named first, the least price, and the number of the second offer
  found : (number price second : ℤ) → Answer
  -- the piece count, and the words written
  listed : ℕ → List ℤ → Answer
  -- the count of the offers reported, and the words written
  reported : ℕ → List ℤ → Answer

pub record Outcome : Type 0 where
  pub state : State
  pub answer : Answer

-- ---- parts of the rules

abbrev pub has_number : ℤ → Offer → Bool
has_number n o = equal o.number n

-- The offer joins, in order.
abbrev pub join : Offer → List Offer → List Offer
join o [] = o ∷ []
join o (p ∷ ps) = cond (ahead o p) (o ∷ p ∷ ps) (p ∷ join o ps)

-- The offer leaves.
abbrev pub leave : ℤ → List Offer → List Offer
leave n os = keep (λ o. not (has_number n o)) os

-- What undoes a post, and a withdrawal of the offer that has the number: one entry, where the call is accepted (`Undoing`).
abbrev pub undo_of : List Offer → Call → List Undo
undo_of os (post n r b) = unpost n ∷ []
undo_of os (withdraw n) = map restore (keep (has_number n) os)
undo_of os (query q) = []
undo_of os (listing room) = []
undo_of os take_back = []
undo_of os (report q p room) = []

abbrev pub most_remembered : ℕ
most_remembered = 256

-- Up to 256 are remembered: one more, and the oldest falls out of memory for good.
abbrev pub remember : List Undo → List Undo → List Undo
remember new memory = take most_remembered (new ++ memory)

-- The live offers when it is undone.
abbrev pub undone : Undo → List Offer → List Offer
undone (unpost n) os = leave n os
undone (restore o) os = join o os

-- What undoes an update is itself a call.
abbrev pub undoing : Undo → Call
undoing (unpost n) = withdraw n
undoing (restore o) = post o.number o.rate o.base

-- Whether a tie goes to the first of two rates: to the lower one, or to the higher.
abbrev pub lower : ℤ → ℤ → Bool
lower r s = lt_z r s

abbrev pub higher : ℤ → ℤ → Bool
higher r s = lt_z s r

-- At a load the first offer comes before the second: it is cheaper, or as cheap and of the rate that a tie goes to.
abbrev pub goes_first : (ℤ → ℤ → Bool) → ℤ → Offer → Offer → Bool
goes_first tie q o p = lt_z (price_at o q) (price_at p q) || (equal (price_at o q) (price_at p q) && tie o.rate p.rate)

-- The cheapest at a load of an offer and those after it, by the rate that a tie goes to; within one rate the first in order.
abbrev pub cheapest : (ℤ → ℤ → Bool) → ℤ → Offer → List Offer → Offer
cheapest tie q best [] = best
cheapest tie q best (o ∷ os) = cheapest tie q (cond (goes_first tie q o best) o best) os

-- The crossing of a and e lies strictly left of the crossing of e and c.
abbrev pub turns : Offer → Offer → Offer → Bool
turns a e c = lt_z (crossing_numerator a e *ℤ crossing_denominator e c) (crossing_numerator e c *ℤ crossing_denominator a e)

-- Of one rate the first alone: an offer, then the firsts behind it that have a lower rate.
abbrev pub first_of_each : List Offer → List Offer
first_of_each os = firsts precedes os

-- Of offers with different rates, those whose every crossing with an earlier offer lies strictly left of their every crossing with a later one.
abbrev pub lower_envelope : List Offer → List Offer
lower_envelope os = keep (λ e. every (λ a. every (λ c. not (precedes a e && precedes e c) || turns a e c) os) os) os

-- The offers on the lower envelope. `ListingLaws` proves that each is the first of its rate and at some rational load, of any size, strictly cheaper
-- than every offer of another rate, and that there is no other such offer.
abbrev pub envelope : List Offer → List Offer
envelope os = lower_envelope (first_of_each os)

-- Number, numerator, denominator a piece: its crossing with the next, unreduced. The last carries 0 and 0.
abbrev pub piece_words : List Offer → List ℤ
piece_words [] = []
piece_words (o ∷ []) = o.number ∷ pos 0 ∷ pos 0 ∷ []
piece_words (o ∷ p ∷ ps) = o.number ∷ crossing_numerator o p ∷ crossing_denominator o p ∷ piece_words (p ∷ ps)

-- The offers whose price at the load is strictly below p, in order.
abbrev pub under : ℤ → ℤ → List Offer → List Offer
under q p os = keep (λ o. lt_z (price_at o q) p) os

-- Number, rate, base an offer.
abbrev pub offer_words : List Offer → List ℤ
offer_words [] = []
offer_words (o ∷ os) = o.number ∷ o.rate ∷ o.base ∷ offer_words os

-- ---- which calls are declined

-- A part of capacity c has 64 × (c + 1) + 1,024 words.
abbrev pub part_length : ℕ → ℕ
part_length c = 64 * (c + 1) + 1_024

-- No book: `start` beyond the table, fewer than 1,152 words there, first word outside 1 to 4,096, or part cut short.
abbrev pub no_book_at : (words start : ℕ) → ℤ → Bool
no_book_at words start first =
    ltb words start || ltb (words - start) 1_152 || not (between (pos 1) (pos 4_096) first) || ltb (words - start) (part_length (nat_abs first))

-- Open, on a table of so many words.
abbrev pub open_trials : (words start : ℕ) → ℤ → List Trial
open_trials words start c =
    capacity_out_of_range when not (between (pos 1) (pos 4_096) c)
    ∷ table_too_short when (ltb words start || ltb (words - start) (part_length (nat_abs c)))
    ∷ []

abbrev pub range_trials : Call → List Trial
range_trials (post n r b) =
    number_out_of_range when not (number_in_range n)
    ∷ rate_out_of_range when not (rate_in_range r)
    ∷ base_out_of_range when not (base_in_range b)
    ∷ []
range_trials (withdraw n) = number_out_of_range when not (number_in_range n) ∷ []
range_trials (query q) = load_out_of_range when not (load_in_range q) ∷ []
range_trials (listing room) = []
range_trials take_back = []
range_trials (report q p room) = price_out_of_range when not (price_in_range p) ∷ load_out_of_range when not (load_in_range q) ∷ []

abbrev pub book_trials : State → Call → List Trial
book_trials s (post n r b) =
    number_live when any (has_number n) s.offers
    ∷ book_full when leb s.capacity (length s.offers)
    ∷ []
book_trials s (withdraw n) = number_not_live when not (any (has_number n) s.offers) ∷ []
book_trials s (query q) = book_empty when leb (length s.offers) 0 ∷ []
book_trials s (listing room) = output_too_short when ltb room (3 * length (envelope s.offers)) ∷ []
book_trials s take_back = nothing_to_take_back when leb (length s.memory) 0 ∷ []
book_trials s (report q p room) = output_too_short when ltb room (3 * length (under q p s.offers)) ∷ []

abbrev pub trials : State → Call → List Trial
trials s k = range_trials k ++ book_trials s k

-- ---- the book

-- An accepted opening: no live offers, and nothing to take back.
abbrev pub opened : ℤ → State
opened c = record { capacity = nat_abs c; offers = []; memory = [] }

-- What opening a table of so many words answers: a refusal's number, or 0 alone.
abbrev pub opening_by : Option Cause → ℕ
opening_by none = 0
opening_by (some k) = cause_number k

abbrev pub opening : (words start : ℕ) → ℤ → ℕ
opening words start c = opening_by (declined (open_trials words start c))

-- The book with other live offers.
abbrev pub holding : State → List Offer → State
holding s os = record { capacity = s.capacity; offers = os; memory = s.memory }

-- .. and another memory.
abbrev pub recalling : State → List Offer → List Undo → State
recalling s os us = record { capacity = s.capacity; offers = os; memory = us }

-- The same, with the count of offers.
abbrev pub changed : State → List Offer → List Undo → Outcome
changed s os us = record { state = recalling s os us; answer = live (length os) }

-- What an accepted call does.
abbrev pub accepted : State → Call → Outcome
accepted s (post n r b) =
    changed s (join (record { number = n; rate = r; base = b }) s.offers) (remember (undo_of s.offers (post n r b)) s.memory)
accepted s (withdraw n) = changed s (leave n s.offers) (remember (undo_of s.offers (withdraw n)) s.memory)
accepted s take_back = taken_back s.memory
  where
    taken_back : List Undo → Outcome
    taken_back [] = record { state = s; answer = refused (cause_number nothing_to_take_back) }  -- idle: it is declined
    taken_back (u ∷ us) = changed s (undone u s.offers) us
accepted s (query q) = record { state = s; answer = answer_of s.offers }
  where
    answer_of : List Offer → Answer
    answer_of [] = refused (cause_number book_empty)  -- idle: an empty book declines the query
    answer_of (o ∷ os) = let best = cheapest lower q o os in found best.number (price_at best q) (cheapest higher q o os).number
accepted s (listing room) = record { state = s; answer = listed (length (envelope s.offers)) (piece_words (envelope s.offers)) }
accepted s (report q p room) = record { state = s; answer = reported (length (under q p s.offers)) (offer_words (under q p s.offers)) }

abbrev pub respond : State → Call → Option Cause → Outcome
respond s k none = accepted s k
respond s k (some c) = record { state = s; answer = refused (cause_number c) }

-- One call.
abbrev pub step : State → Call → Outcome
step s k = respond s k (declined (trials s k))

-- A list of calls: the state after it.
abbrev pub after : State → List Call → State
after s [] = s
after s (k ∷ ks) = after (step s k).state ks

-- The answers in order.
abbrev pub answers : State → List Call → List Answer
answers s [] = []
answers s (k ∷ ks) = (step s k).answer ∷ answers (step s k).state ks

-- ---- what is remembered can be undone

-- In a book of c slots with these offers the entries, undone last first, meet none of the causes of a post and of a withdrawal: 4 to 8, 14 and 15.
abbrev pub Undoable : ℕ → List Offer → List Undo → Type 0
Undoable c os [] = Unit {0}
Undoable c os (u ∷ us) = Clear (trials (record { capacity = c; offers = os; memory = us }) (undoing u)) × Undoable c (undone u os) us

-- All that the book remembers can be undone.
abbrev pub Recallable : State → Type 0
Recallable s = Undoable s.capacity s.offers s.memory
