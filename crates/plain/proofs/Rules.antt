-- Theorems on specs/Rules.
use Rattle.std.specs.Prelude.{◌≡◌, refl, ◌≢◌, not, ℕ, zero, suc, ◌+◌, ◌*◌, ◌≤◌, ◌<◌, length, get_or, T, ℤ, pos}
use Rattle.std.proofs.Common.{◌∙◌, ap, arith, T_not, le→leb, le-ltb, lt-ltb}
use mathlib.Core.List.{List, [], ◌∷◌, Memᴰ}
use Rattle.std.proofs.Math.Dec.{not_T}
use Rattle.std.proofs.Math.Arith.{lt→nleb}
use Rattle.lists.specs.Bools.{passed, failed, twice, not_failed}
use Rattle.lists.specs.Tests.{any, none_at, not_any}
use Rattle.integers.specs.Equal.{equal}
use Rattle.integers.specs.Parts.{equal_is, equal_eq}
use Rattle.offers.specs.Offers.{Offer, number_in_range, rate_in_range, base_in_range, load_in_range, price_in_range, price_at, crossing_numerator, crossing_denominator}
use Rattle.plain.specs.Causes.{Cause, cause_number, Clear}
use Rattle.plain.specs.Book.{has_number, State, Outcome, Call, post, withdraw, query, listing, take_back, report, refused, live, found, listed, reported}
use Rattle.plain.specs.Book.{join, leave, lower, higher, cheapest, envelope, piece_words, under, offer_words, trials, step, respond, accepted}
use Rattle.plain.specs.Book.{Undo, undo_of, remember, undone, recalling, changed}
use Rattle.plain.specs.Causes.{FirstOf, at_once, further, output_too_short, nothing_to_take_back}
use Rattle.plain.specs.Trials.{declined_by, not_declined}
use Rattle.plain.specs.Sound.{length_join}
use Rattle.plain.specs.Meaning.{PieceAt}
use Rattle.plain.specs.Rules.{posted, refusing, step_accepted}

-- ---- what each call does
module _ (s : State) where
  pub step_declined : (k : Call) (c : Cause) → FirstOf (trials s k) c → step s k ≡ record { state = s; answer = refused (cause_number c) }
  step_declined k c f = ap (respond s k) (declined_by (trials s k) c f)

  pub posts : (n r b : ℤ) → Clear (trials s (post n r b)) → step s (post n r b) ≡ record { state = (posted s) n r b; answer = live (suc (length s.offers)) }
  posts n r b c = (step_accepted s) (post n r b) c ∙ ap (λ m. record { state = (posted s) n r b; answer = live m }) (length_join (record {
    number = n;
    rate = r;
    base = b;
  }) s.offers)

  pub nothing_taken : s.memory ≡ [] → step s take_back ≡ refusing s 17
  nothing_taken e = step_declined take_back nothing_to_take_back (at_once (le→leb (length s.memory) 0 (omega (arith, ap length e))))

-- A post in range of a number that no live offer has joins a book that is not full, whatever the rates that are live.
pub joins : (s : State) (n r b : ℤ) → T (number_in_range n) → T (rate_in_range r) → T (base_in_range b) →
    ((o : Offer) → Memᴰ o s.offers → o.number ≢ n) → length s.offers < s.capacity →
    step s (post n r b) ≡ record { state = posted s n r b; answer = live (suc (length s.offers)) }
joins s n r b i j l other room =
    posts s n r b (
      twice (number_in_range n) i,
      (
        twice (rate_in_range r) j,
        (
          twice (base_in_range b) l,
          (
            not_any (has_number n) s.offers (λ o m. not_T (equal o.number n) (λ t. other o m (equal_eq o.number n t))),
            (lt→nleb s.capacity (length s.offers) room, tt),
          ),
        ),
      ),
    )

-- .. and a shorter one gets 10
pub report_short : (s : State) (q p : ℤ) (room : ℕ) → T (price_in_range p) → T (load_in_range q) → room < 3 * length (under q p s.offers) →
    step s (report q p room) ≡ refusing s 10
report_short s q p room i j h =
    step_declined s (report q p room) output_too_short
    (further (twice (price_in_range p) i) (further (twice (load_in_range q) j) (at_once (passed (lt-ltb room (3 * length (under q p s.offers)) h)))))
