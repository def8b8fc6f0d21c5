-- Theorems on specs/Entries.
use Rattle.std.specs.Prelude.{◌≡◌, refl, ◌⊎◌, ◌≢◌, not, List, [], ◌∷◌, ℕ, ◌≤◌, ℤ, T}
use Rattle.std.proofs.Common.{◌∙◌, ap, subst, inl, inr, ⊎_elim, arith}
use Rattle.std.proofs.Math.Option.{Option, none, some}
use Rattle.lists.specs.Bools.{twice, not_not}
use Rattle.offers.specs.Offers.{Offer, number_in_range, rate_in_range, base_in_range, load_in_range, price_in_range}
use Rattle.plain.specs.Causes.{Cause, capacity_out_of_range, table_too_short, no_book, number_out_of_range, rate_out_of_range, base_out_of_range, load_out_of_range}
use Rattle.plain.specs.Causes.{price_out_of_range, number_live, book_full, number_not_live, book_empty, output_too_short, unreadable_line, rates_not_apart}
use Rattle.plain.specs.Causes.{no_such_mark, nothing_to_take_back, cause_number, declined, FirstOf, at_once, further}
use Rattle.plain.specs.Book.{State, Undo, Call, post, withdraw, query, listing, take_back, report, Answer, refused, live, found, listed, reported}
use Rattle.plain.specs.Book.{range_trials, book_trials, trials, recalling, respond, accepted, step}
use Rattle.plain.specs.Trials.{declined_first, first_append}
use Rattle.plain.specs.Rules.{refusing}
use Rattle.plain.proofs.Rules.{step_declined}
use Rattle.plain.specs.Entries.{Names, Otherwise, by_cause, names_first, names_other, number_in}

-- ---- a call with an entry out of range is refused with its number
pub named_refused : (s : State) {m : ℕ} {k : Call} → Names m k → step s k ≡ refusing s m
named_refused s {m} {k} n = let (z, f, e) = names_first n in step_declined s k z (first_append (book_trials s k) f) ∙ ap (refusing s) e

pub refused_names : (s : State) (k : Call) (m : ℕ) → (step s k).answer ≡ refused m → Otherwise m ⊎ Names m k
unfolding number_in
refused_names s k m e = subst (λ (i : ℕ). Otherwise i ⊎ Names i k) (ap number_in e) (go (declined (trials s k)) refl)
  where
    asked : (c : ℕ) (os : List Offer) (us : List Undo) (q : ℤ) →
        Otherwise (number_in (accepted (record { capacity = c; offers = os; memory = us }) (query q)).answer)
    asked c [] us q = (omega arith, omega arith, inl (omega arith))
    asked c (o ∷ os) us q = (omega arith, omega arith, inl (omega arith))

    taken_back : (os : List Offer) (us : List Undo) → Otherwise (number_in (accepted (recalling s os us) take_back).answer)
    taken_back os [] = (omega arith, omega arith, inr refl)
    taken_back os (u ∷ us) = (omega arith, omega arith, inl (omega arith))

    taken : (k : Call) → Otherwise (number_in (accepted s k).answer)
    taken (post n r b) = (omega arith, omega arith, inl (omega arith))
    taken (withdraw n) = (omega arith, omega arith, inl (omega arith))
    taken (query q) = asked s.capacity s.offers s.memory q
    taken take_back = taken_back s.offers s.memory
    taken (listing room) = (omega arith, omega arith, inl (omega arith))
    taken (report q p room) = (omega arith, omega arith, inl (omega arith))

    go : (d : Option Cause) → declined (trials s k) ≡ d → Otherwise (number_in (respond s k d).answer) ⊎ Names (number_in (respond s k d).answer) k
    go none p = inl (taken k)
    go (some z) p = by_cause s k z (declined_first (trials s k) z p)

pub not_six : (s : State) (k : Call) → (step s k).answer ≢ refused 6
not_six s k e = ⊎_elim (λ o. o.1 refl) (λ n. names_other n refl) (refused_names s k 6 e)
