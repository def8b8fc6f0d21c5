-- What undoes an accepted update gives back the offers that it found, and meets no cause that declines: so all that a book remembers can be undone,
-- after every list of calls.
use Rattle.std.specs.Prelude.{◌≡◌, refl, ◌≢◌, Bool, true, false, not, ◌&&◌, cond, ℕ, zero, suc, ◌≤◌, ◌<◌, length, take, T, ℤ}
use Rattle.std.proofs.Common.{sym, subst, ap, ◌∙◌, inl, arith, length-take, take_all, T_not}
use mathlib.Core.List.Pairwise
use mathlib.Core.List.{List, [], ◌∷◌, ◌++◌, map, Memᴰ, Pairwise, rel_of_Pairwise-cons}
use Rattle.std.proofs.Math.Option.{Option, none, some}
use Rattle.std.proofs.Math.Dec.{not_T}
use Rattle.std.proofs.Math.Arith.{lt→nleb}
use Rattle.lists.specs.Filter.{keep, keep_all, keep_passes}
use Rattle.lists.specs.Tests.{any, none_at, any_some, not_any}
use Rattle.lists.specs.Bools.{twice, not_not, not_failed, and_left, and_right, cond_yes, cond_no}
use Rattle.integers.specs.Parts.{equal_is, equal_eq, unequal}
use Rattle.offers.specs.Offers.{Offer, number_in_range, rate_in_range, base_in_range, ahead}
use Rattle.offers.specs.Order.{ahead_said, ahead_asym}
use Rattle.plain.specs.Causes.{Cause, declined, Clear}
use Rattle.plain.specs.Trials.{clear}
use Rattle.plain.specs.Book.{State, Undo, unpost, restore, Call, post, withdraw, query, listing, take_back, report, has_number, join, leave, undo_of}
use Rattle.plain.specs.Book.{most_remembered, remember, undone, trials, opened, recalling, accepted, respond, step, after, undoing, Undoable, Recallable}
use Rattle.plain.specs.Sound.{Sound, length_join, tried_recalling}

-- The calls that change the live offers and are remembered.
pub data Updating : Call → Type 0 where
  posting : {n r b : ℤ} → Updating (post n r b)
  withdrawing : {n : ℤ} → Updating (withdraw n)

-- An accepted update has one entry that undoes it, which gives back the offers that it found and, whatever is remembered, meets no cause.
pub record Undoes (s : State) (k : Call) : Type 0 where
  pub entry : Undo
  pub only : undo_of s.offers k ≡ entry ∷ []
  pub back : undone entry (accepted s k).state.offers ≡ s.offers
  pub tried : (us : List Undo) → Clear (trials (recalling s (accepted s k).state.offers us) (undoing entry))

-- ---- which offers have a number

has : (o : Offer) (n : ℤ) → o.number ≡ n → T (has_number n o)
has o n e = equal_is o.number n e

has_not : (o : Offer) (n : ℤ) → o.number ≢ n → T (not (has_number n o))
has_not o n d = not_T (has_number n o) (λ t. d (equal_eq o.number n t))

-- the first of a list leaves, or stays
pub leaves_first : (n : ℤ) (o : Offer) (os : List Offer) → o.number ≡ n → leave n (o ∷ os) ≡ leave n os
leaves_first n o os e = cond_no (not (has_number n o)) (o ∷ leave n os) (leave n os) (twice (has_number n o) (has o n e))

pub stays_first : (n : ℤ) (o : Offer) (os : List Offer) → o.number ≢ n → leave n (o ∷ os) ≡ o ∷ leave n os
stays_first n o os d = cond_yes (not (has_number n o)) (o ∷ leave n os) (leave n os) (has_not o n d)

pub none_leaves : (n : ℤ) (os : List Offer) → ((x : Offer) → Memᴰ x os → x.number ≢ n) → leave n os ≡ os
none_leaves n os other = keep_all (λ x. not (has_number n x)) os (λ x m. has_not x n (other x m))

none_kept : (n : ℤ) (os : List Offer) → ((x : Offer) → Memᴰ x os → x.number ≢ n) → keep (has_number n) os ≡ []
none_kept n [] other = refl
none_kept n (x ∷ xs) other =
    cond_no (has_number n x) (x ∷ keep (has_number n) xs) (keep (has_number n) xs) (has_not x n (other x (Memᴰ.head refl)))
    ∙ none_kept n xs (λ y m. other y (Memᴰ.tail m))

pub some_has : (o : Offer) (os : List Offer) → Memᴰ o os → T (any (has_number o.number) os)
some_has o os m = not_failed (any (has_number n) os) (λ t. T_not (has_number n o) (none_at (has_number n) os t o m) (has o n refl))
  where
    n : ℤ
    n = o.number

-- ---- a new offer joins and leaves

-- ---- a live offer leaves and joins again

-- ahead of all, it joins at the front
pub joins_first : (o : Offer) (os : List Offer) → ((x : Offer) → Memᴰ x os → T (ahead o x)) → join o os ≡ o ∷ os
joins_first o [] first = refl
joins_first o (p ∷ ps) first = cond_yes (ahead o p) (o ∷ p ∷ ps) (p ∷ join o ps) (first p (Memᴰ.head refl))

-- behind the first, it joins the others
pub joins_later : (o p : Offer) (ps : List Offer) → T (ahead p o) → join o (p ∷ ps) ≡ p ∷ join o ps
joins_later o p ps t = cond_no (ahead o p) (o ∷ p ∷ ps) (p ∷ join o ps) (not_T (ahead o p) (λ u. ahead_asym (ahead_said o p u) (ahead_said p o t)))

-- it alone has its number
pub kept_one : (o : Offer) (os : List Offer) → Pairwise (λ a b. a.number ≢ b.number) os → Memᴰ o os → keep (has_number o.number) os ≡ o ∷ []
kept_one o [] q x'' = elim x'' [ ]
kept_one o (x ∷ xs) q (Memᴰ.head e) =
    cond_yes (has_number n x) (x ∷ keep (has_number n) xs) (keep (has_number n) xs) (has x n (sym same))
    ∙ ap {B = List Offer} (λ (r : List Offer). x ∷ r) (none_kept n xs (λ y m d. rel_of_Pairwise-cons q ∣ m ∣₁ (sym same ∙ sym d)))
    ∙ ap (λ (y : Offer). y ∷ []) (sym e)
  where
    n : ℤ
    n = o.number

    same : n ≡ x.number
    same = ap (λ (y : Offer). y.number) e
kept_one o (x ∷ xs) q (Memᴰ.tail m) =
    cond_no (has_number n x) (x ∷ keep (has_number n) xs) (keep (has_number n) xs) (has_not x n (rel_of_Pairwise-cons q ∣ m ∣₁))
    ∙ kept_one o xs (Pairwise.of_cons q) m
  where
    n : ℤ
    n = o.number

-- ---- what undoes an accepted update

-- ---- what a book remembers can be undone

-- so can the last few of it
pub undoable_take : (c : ℕ) (os : List Offer) (n : ℕ) (us : List Undo) → Undoable c os us → Undoable c os (take n us)
undoable_take c os zero us d = tt
undoable_take c os (suc n) [] d = tt
undoable_take c os (suc n) (u ∷ us) (e, d) =
    (tried_recalling (record { capacity = c; offers = os; memory = us }) us (take n us) u e, undoable_take c (undone u os) n us d)

pub update_recallable : (s : State) (k : Call) → Undoes s k → Recallable s →
    Undoable s.capacity (accepted s k).state.offers (remember (undo_of s.offers k) s.memory)
update_recallable s k u d =
    rw u.only
    (undoable_take s.capacity (accepted s k).state.offers most_remembered (u.entry ∷ s.memory)
    (u.tried s.memory, subst (λ (os : List Offer). Undoable s.capacity os s.memory) (sym u.back) d))

pub opened_recallable : (c : ℤ) → Recallable (opened c)
opened_recallable c = tt

-- up to 256 are remembered, so that none falls out before
pub remembers_all : (u : Undo) (us : List Undo) → length us < 256 → remember (u ∷ []) us ≡ u ∷ us
remembers_all u us h = take_all most_remembered (u ∷ us) (omega arith)

-- the new entry first, and of those before it the last 255
pub remembers : (u : Undo) (us : List Undo) → remember (u ∷ []) us ≡ u ∷ take 255 us
remembers u us = refl

-- .. and no more
pub remembered_few : (s : State) (k : Call) → length s.memory ≤ 256 → length (step s k).state.memory ≤ 256
remembered_few s k h = go (declined (trials s k)) k
  where
    few : (us : List Undo) → length (remember us s.memory) ≤ most_remembered
    few us = omega (arith, length-take most_remembered (us ++ s.memory))

    taken : (us : List Undo) → length us ≤ most_remembered → length (accepted (recalling s s.offers us) take_back).state.memory ≤ most_remembered
    taken [] f = f
    taken (u ∷ us) f = omega arith

    go : (d : Option Cause) (k : Call) → length (respond s k d).state.memory ≤ most_remembered
    go (some c) k = h
    go none (post n r b) = few (undo_of s.offers (post n r b))
    go none (withdraw n) = few (undo_of s.offers (withdraw n))
    go none (query q) = h
    go none (listing room) = h
    go none (report q p room) = h
    go none take_back = taken s.memory h

-- ---- after every list of calls
