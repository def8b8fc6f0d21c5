-- Every number that the plain book answers fits its column.
use Rattle.std.specs.Prelude.{◌≡◌, refl, ℕ, ◌*◌, ◌≤◌, length, T, ℤ, pos, nat_abs}
use mathlib.Core.List.{List, [], ◌∷◌, Memᴰ}
use Rattle.std.proofs.Math.Option.{Option, none, some}
use Rattle.std.proofs.Common.{arith, nltb→le}
use Rattle.lists.specs.Places.{sublist_mem}
use Rattle.lists.specs.Bools.{not_not}
use Rattle.offers.specs.Offers.{Offer, number_in_range, load_in_range, offer_in_range, price_at, crossing_numerator, crossing_denominator}
use Rattle.offers.specs.Sizes.{number_of_lem, rate_of_lem, base_of_lem, number_size, number_is, price_at_size, base_gap_size, rate_gap_size}
use Rattle.plain.specs.Causes.{Cause, declined, cause_number, capacity_out_of_range, table_too_short, no_book, number_out_of_range, rate_out_of_range}
use Rattle.plain.specs.Causes.{base_out_of_range, load_out_of_range, price_out_of_range, number_live, book_full, number_not_live, book_empty}
use Rattle.plain.specs.Causes.{output_too_short, unreadable_line, rates_not_apart, no_such_mark, nothing_to_take_back}
use Rattle.plain.specs.Book.{State, Undo, Call, post, withdraw, query, listing, take_back, report, refused, trials, Recallable, respond, accepted}
use Rattle.plain.specs.Book.{step, lower, higher, cheapest, envelope, piece_words}
use Rattle.plain.specs.Trials.{clear}
use Rattle.plain.specs.Sound.{Sound}
use Rattle.plain.proofs.Sound.{step_sound}
use Rattle.plain.specs.QueryLaws.{lower_tie, higher_tie, cheapest_names}
use Rattle.plain.proofs.ListingLaws.{envelope_sub}
use Rattle.promises.specs.Numbered.{from_one}
use Rattle.counter_print.specs.Texts.{FitsIn}
use Rattle.counter_print.specs.Decimals.{fits_column, fits_unsigned}
use Rattle.counter_reply.specs.Replies.{PiecesFit, Fits, zero_fits}
use Rattle.table.specs.Fields.{most_slots}

-- ---- refusals

few_causes : (c : Cause) → cause_number c ≤ 17
few_causes capacity_out_of_range = omega arith
few_causes table_too_short = omega arith
few_causes no_book = omega arith
few_causes number_out_of_range = omega arith
few_causes rate_out_of_range = omega arith
few_causes base_out_of_range = omega arith
few_causes load_out_of_range = omega arith
few_causes price_out_of_range = omega arith
few_causes number_live = omega arith
few_causes book_full = omega arith
few_causes number_not_live = omega arith
few_causes book_empty = omega arith
few_causes output_too_short = omega arith
few_causes unreadable_line = omega arith
few_causes rates_not_apart = omega arith
few_causes no_such_mark = omega arith
few_causes nothing_to_take_back = omega arith

pub refusal_fits : (number : ℤ) (c : Cause) → Fits number (refused (cause_number c))
refusal_fits number c = (from_one c, fits_unsigned 3 (cause_number c) (omega arith) (omega (arith, few_causes c)))

-- ---- numbers, counts, prices and crossings

number_fits : (n : ℤ) → T (number_in_range n) → FitsIn 6 n
number_fits n t = rw (number_is n t) (fits_unsigned 6 (nat_abs n) (omega arith) (omega (arith, number_size n t)))

count_fits : (n : ℕ) → n ≤ most_slots → FitsIn 14 (pos n)
count_fits n h = fits_unsigned 14 n (omega arith) (omega arith)

size_fits : (z : ℤ) → nat_abs z ≤ 101_000_000_000 → FitsIn 14 z
size_fits z h = fits_column 13 z (omega arith) (omega arith)

pieces_fit : (es : List Offer) → ((o : Offer) → Memᴰ o es → T (offer_in_range o)) → PiecesFit (piece_words es)
unfolding PiecesFit
pieces_fit [] r = tt
pieces_fit (o ∷ []) r = (number_fits o.number (number_of_lem o (r o (Memᴰ.head refl))), zero_fits 14 (omega arith), zero_fits 14 (omega arith), tt)
pieces_fit (o ∷ p ∷ ps) r =
    let t = r o (Memᴰ.head refl) in
    let u = r p (Memᴰ.tail (Memᴰ.head refl)) in (
      number_fits o.number (number_of_lem o t),
      size_fits (crossing_numerator o p) (omega (arith, base_gap_size o.base p.base (base_of_lem o t) (base_of_lem p u))),
      size_fits (crossing_denominator o p) (omega (arith, rate_gap_size o.rate p.rate (rate_of_lem o t) (rate_of_lem p u))),
      pieces_fit (p ∷ ps) (λ x m. r x (Memᴰ.tail m)),
    )

-- ---- the answers

-- The number that a post's or a withdrawal's line shows.
abbrev pub shown : Call → ℤ
shown (post n r b) = n
shown (withdraw n) = n
shown (query q) = pos 0
shown (listing room) = pos 0
shown take_back = pos 0
shown (report q p room) = pos 0

-- the room that the counter gives: it asks for no report
abbrev pub Roomy : Call → Type 0
Roomy (post n r b) = Unit {0}
Roomy (withdraw n) = Unit {0}
Roomy (query q) = Unit {0}
Roomy (listing room) = room ≡ 192
Roomy take_back = Unit {0}
Roomy (report q p room) = ⊥

module _ (c : ℕ) (os : List Offer) (us : List Undo) (small : c ≤ most_slots) (sound : Sound (record { capacity = c; offers = os; memory = us }))
    (kept : Recallable (record { capacity = c; offers = os; memory = us })) where
  abbrev s : State
  s = record { capacity = c; offers = os; memory = us }

  found_fits : (q : ℤ) → T (load_in_range q) → (os : List Offer) → ((o : Offer) → Memᴰ o os → T (offer_in_range o)) →
      Fits (pos 0) (accepted (record { capacity = c; offers = os; memory = us }) (query q)).answer
  found_fits q t [] r = refusal_fits (pos 0) book_empty
  found_fits q t (o ∷ os) r =
      let b = cheapest lower q o os in
      let d = cheapest higher q o os in
      let u = r b (cheapest_names lower_tie q o os).live in (
        number_fits b.number (number_of_lem b u),
        size_fits (price_at b q) (price_at_size b.base b.rate q (base_of_lem b u) (rate_of_lem b u) t),
        size_fits d.number (omega (arith, number_size d.number (number_of_lem d (r d (cheapest_names higher_tie q o os).live)))),
      )

  back_fits : (us : List Undo) → Sound (accepted (record { capacity = c; offers = os; memory = us }) take_back).state →
      Fits (pos 0) (accepted (record { capacity = c; offers = os; memory = us }) take_back).answer
  back_fits [] after = refusal_fits (pos 0) nothing_to_take_back
  back_fits (u ∷ us) after = (zero_fits 6 (omega arith), count_fits _ (omega (arith, after.fits, small)))

  pub answer_fits : (k : Call) → Roomy k → Fits (shown k) (step s k).answer
  answer_fits k roomy = go (declined (trials s k)) k refl roomy (step_sound s k sound kept)
    where
      go : (d : Option Cause) (k : Call) → declined (trials s k) ≡ d → Roomy k → Sound (respond s k d).state → Fits (shown k) (respond s k d).answer
      go (some z) k e roomy after = refusal_fits (shown k) z
      go none (post n r b) e roomy after =
          (number_fits n (not_not (number_in_range n) (clear (trials s (post n r b)) e).0), count_fits _ (omega (arith, after.fits, small)))
      go none (withdraw n) e roomy after =
          (number_fits n (not_not (number_in_range n) (clear (trials s (withdraw n)) e).0), count_fits _ (omega (arith, after.fits, small)))
      go none (query q) e roomy after = found_fits q (not_not (load_in_range q) (clear (trials s (query q)) e).0) os sound.ranged
      go none take_back e roomy after = back_fits us after
      go none (report q p room) e roomy after = absurd roomy
      go none (listing room) e roomy after =
          let m = nltb→le room (3 * length (envelope os)) (clear (trials s (listing room)) e).0 in
          let n : length (envelope os) ≤ 64 = omega arith in
          (pieces_fit (envelope os) (λ o i. sound.ranged o (sublist_mem (envelope_sub os) i)), count_fits (length (envelope os)) (omega arith), n)
