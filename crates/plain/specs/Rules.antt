-- The plain book's calls, one by one: which trial declines, and what an accepted call answers and leaves.
use Rattle.std.specs.Prelude.{◌≡◌, refl, ◌≢◌, not, ℕ, zero, suc, ◌+◌, ◌*◌, ◌≤◌, ◌<◌, length, get_or, T, ℤ, pos}
use Rattle.std.proofs.Common.{◌∙◌, ap, arith, T_not, le→leb, le-ltb, lt-ltb}
use mathlib.Core.List.{List, [], ◌∷◌, Memᴰ}
use Rattle.std.proofs.Math.Dec.{not_T}
use Rattle.std.proofs.Math.Arith.{lt→nleb}
use Rattle.lists.specs.Bools.{passed, failed, twice, not_failed}
use Rattle.lists.specs.Tests.{any, none_at, not_any}
use Rattle.integers.specs.Equal.{equal}
use Rattle.integers.specs.Parts.{equal_is, equal_eq}
use Rattle.offers.specs.Offers.{Offer, number_in_range, rate_in_range, base_in_range, load_in_range, price_in_range, price_at, crossing_numerator, crossing_denominator}
use Rattle.plain.specs.Causes.{Cause, cause_number, Clear}
use Rattle.plain.specs.Book.{has_number, State, Outcome, Call, post, withdraw, query, listing, take_back, report, refused, live, found, listed, reported}
use Rattle.plain.specs.Book.{join, leave, lower, higher, cheapest, envelope, piece_words, under, offer_words, trials, step, respond, accepted}
use Rattle.plain.specs.Book.{Undo, undo_of, remember, undone, recalling, changed}
use Rattle.plain.specs.Causes.{FirstOf, at_once, further, output_too_short, nothing_to_take_back}
use Rattle.plain.specs.Trials.{declined_by, not_declined}
use Rattle.plain.specs.Sound.{length_join}
use Rattle.plain.specs.Meaning.{PieceAt}

-- a declined call
abbrev pub refusing : State → ℕ → Outcome
refusing s n = record { state = s; answer = refused n }

-- ---- what each call does

module _ (s : State) where
  pub step_accepted : (k : Call) → Clear (trials s k) → step s k ≡ accepted s k
  step_accepted k c = ap (respond s k) (not_declined (trials s k) c)

  -- what is remembered after it
  abbrev pub remembering : Call → List Undo
  remembering k = remember (undo_of s.offers k) s.memory

  -- one offer more, and the count says so
  abbrev pub posted : (n r b : ℤ) → State
  posted n r b = recalling s (join (record { number = n; rate = r; base = b }) s.offers) (remembering (post n r b))

  abbrev pub withdrawn : (n : ℤ) → State
  withdrawn n = recalling s (leave n s.offers) (remembering (withdraw n))

  pub withdraws : (n : ℤ) → Clear (trials s (withdraw n)) → step s (withdraw n) ≡ record {
    state = withdrawn n;
    answer =
        live (length (leave n s.offers));
  }
  withdraws n c = step_accepted (withdraw n) c

  -- the last entry is undone, and is remembered no more
  pub takes_back : (u : Undo) (us : List Undo) → s.memory ≡ u ∷ us → step s take_back ≡ changed s (undone u s.offers) us
  takes_back u us e = step_accepted take_back (lt→nleb (length s.memory) 0 (omega (arith, ap length e)), tt) ∙ go s.memory e
    where
      go : (m : List Undo) → m ≡ u ∷ us → accepted (recalling s s.offers m) take_back ≡ changed s (undone u s.offers) us
      go m d = rw d refl

  pub lists : (room : ℕ) → Clear (trials s (listing room)) →
      step s (listing room) ≡ record { state = s; answer = listed (length (envelope s.offers)) (piece_words (envelope s.offers)) }
  lists room c = step_accepted (listing room) c

-- A withdrawal of a live offer takes it out, the first of its rate or not.
pub goes : (s : State) (o : Offer) → Memᴰ o s.offers → T (number_in_range o.number) → step s (withdraw o.number) ≡ record {
  state = withdrawn s o.number;
  answer = live (length (leave o.number s.offers));
}
goes s o m i =
    withdraws s o.number (
      twice (number_in_range o.number) i,
      (
        twice (any (has_number o.number) s.offers)
            (not_failed (any (has_number o.number) s.offers)
            (λ t. T_not (equal o.number o.number) (none_at (has_number o.number) s.offers t o m) (equal_is o.number o.number refl))),
        tt,
      ),
    )

-- A listing whose output has three words a piece is accepted, however many offers are live.
pub shows : (s : State) (room : ℕ) → 3 * length (envelope s.offers) ≤ room →
    step s (listing room) ≡ record { state = s; answer = listed (length (envelope s.offers)) (piece_words (envelope s.offers)) }
shows s room h = lists s room (failed (le-ltb room (3 * length (envelope s.offers)) h), tt)

-- So is a report whose output has three words an offer, where price and load are in range; an empty book's too.
pub reports : (s : State) (q p : ℤ) (room : ℕ) → T (price_in_range p) → T (load_in_range q) → 3 * length (under q p s.offers) ≤ room →
    step s (report q p room) ≡ record { state = s; answer = reported (length (under q p s.offers)) (offer_words (under q p s.offers)) }
reports s q p room i j h =
    step_accepted s (report q p room) (
      twice (price_in_range p) i,
      (twice (load_in_range q) j, (failed (le-ltb room (3 * length (under q p s.offers)) h), tt)),
    )

-- a book with an offer answers a load in range
pub finds : (c : ℕ) (o : Offer) (os : List Offer) (us : List Undo) (q : ℤ) → T (load_in_range q) →
    step (record { capacity = c; offers = o ∷ os; memory = us }) (query q) ≡ record {
      state = record { capacity = c; offers = o ∷ os; memory = us };
      answer = found (cheapest lower q o os).number (price_at (cheapest lower q o os) q) (cheapest higher q o os).number;
    }
finds c o os us q t =
    step_accepted (record { capacity = c; offers = o ∷ os; memory = us }) (query q) (twice (load_in_range q) t, (lt→nleb (suc (length os)) 0 (omega arith), tt))

-- ---- a listing's words

pub words_length : (es : List Offer) → length (piece_words es) ≡ 3 * length es
words_length [] = refl
words_length (o ∷ []) = refl
words_length (o ∷ p ∷ ps) = let e = words_length (p ∷ ps) in omega arith

later : {ws : List ℤ} {a b c n u v : ℤ} {i : ℕ} → PieceAt ws i n u v → PieceAt (a ∷ b ∷ c ∷ ws) (suc i) n u v
later {ws} {a} {b} {c} {i} h = record {
  first = at (3 * suc i) (3 * i) (omega arith) ∙ h.first;
  second = at (3 * suc i + 1) (3 * i + 1) (omega arith) ∙ h.second;
  third = at (3 * suc i + 2) (3 * i + 2) (omega arith) ∙ h.third;
}
  where
    at : (m n : ℕ) → m ≡ suc (suc (suc n)) → get_or (a ∷ b ∷ c ∷ ws) m (pos 0) ≡ get_or ws n (pos 0)
    at m n e = rw e refl

pub words_inner : (es : List Offer) (i : ℕ) (d : Offer) → suc i < length es →
    PieceAt (piece_words es) i (get_or es i d).number (crossing_numerator (get_or es i d) (get_or es (suc i) d))
    (crossing_denominator (get_or es i d) (get_or es (suc i) d))
words_inner [] i d h = absurd (omega arith)
words_inner (o ∷ []) i d h = absurd (omega arith)
words_inner (o ∷ p ∷ ps) zero d h = record { first = refl; second = refl; third = refl }
words_inner (o ∷ p ∷ ps) (suc i) d h = later (words_inner (p ∷ ps) i d (omega arith))

pub words_last : (es : List Offer) (i : ℕ) (d : Offer) → suc i ≡ length es → PieceAt (piece_words es) i (get_or es i d).number (pos 0) (pos 0)
words_last [] i d h = absurd (omega arith)
words_last (o ∷ []) zero d h = record { first = refl; second = refl; third = refl }
words_last (o ∷ []) (suc i) d h = absurd (omega arith)
words_last (o ∷ p ∷ ps) zero d h = absurd (omega arith)
words_last (o ∷ p ∷ ps) (suc i) d h = later (words_last (p ∷ ps) i d (omega arith))

-- ---- a report's words

pub offers_length : (os : List Offer) → length (offer_words os) ≡ 3 * length os
offers_length [] = refl
offers_length (o ∷ os) = omega (arith, offers_length os)

pub offers_at_lem : (os : List Offer) (i : ℕ) (d : Offer) → i < length os →
    PieceAt (offer_words os) i (get_or os i d).number (get_or os i d).rate (get_or os i d).base
offers_at_lem [] i d h = absurd (omega arith)
offers_at_lem (o ∷ os) zero d h = record { first = refl; second = refl; third = refl }
offers_at_lem (o ∷ os) (suc i) d h = later (offers_at_lem os i d (omega arith))
