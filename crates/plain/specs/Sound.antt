-- What holds of the plain book after every list of calls: its offers stand in order, no two with one number, each in range, at most c of them; and a
-- refused call changes nothing.
use Rattle.std.specs.Prelude.{◌≡◌, refl, ◌⊎◌, ◌≢◌, Bool, true, false, not, ◌&&◌, cond, ℕ, suc, ◌≤◌, length, T, ℤ, pos, negsuc}
use Rattle.std.proofs.Common.{sym, subst, ap, inl, inr, ⊎_elim, arith, T_not}
use mathlib.Core.HLevel.{¬_prop}
use mathlib.Core.List.Memᴰ
use mathlib.Core.List.Pairwise
use mathlib.Core.List.{List, [], ◌∷◌, Memᴰ, Pairwise}
use mathlib.Core.List.{rel_of_Pairwise-cons, Sublistᴰ}
use Rattle.std.proofs.Math.Option.{Option, none, some}
use Rattle.std.proofs.Math.Dec.{T_prop, nleb→lt}
use Rattle.lists.specs.Filter.{keep_sublist}
use Rattle.lists.specs.Members.{sub_length, pairs_cons}
use Rattle.lists.specs.Places.{sublist_mem}
use Rattle.lists.specs.Tests.{none_at}
use Rattle.lists.specs.Bools.{and_both, not_not}
use Rattle.integers.specs.Parts.{range_parts, unequal}
use Rattle.offers.specs.Offers.{Offer, between, number_in_range, rate_in_range, base_in_range, offer_in_range, ahead}
use Rattle.offers.specs.Order.{Ahead, ahead_said, ahead_meant, ahead_trans, compare_offers}
use Rattle.plain.specs.Causes.{Cause, declined}
use Rattle.plain.specs.Causes.{Clear}
use Rattle.plain.specs.Trials.{clear}
use Rattle.plain.specs.Book.{State, Undo, unpost, restore, Call, post, withdraw, query, listing, take_back, report, refused, has_number, join, leave}
use Rattle.plain.specs.Book.{trials, opened, open_trials, accepted, respond, step, undone, undoing, Undoable, Recallable, recalling}

pub record Sound (s : State) : Type 0 where
  pub capacity_low : 1 ≤ s.capacity
  pub capacity_high : s.capacity ≤ 4_096
  pub ordered : Pairwise (λ a b. T (ahead a b)) s.offers
  pub numbered : Pairwise (λ a b. a.number ≢ b.number) s.offers
  pub ranged : (o : Offer) → Memᴰ o s.offers → T (offer_in_range o)
  pub fits : length s.offers ≤ s.capacity

-- ---- an offer joins

pub mem_join : (o : Offer) {x : Offer} (os : List Offer) → Memᴰ x (join o os) → (x ≡ o) ⊎ Memᴰ x os
mem_join o [] m = Memᴰ.cases_cons m
mem_join o {x} (p ∷ ps) m = go (ahead o p) m (mem_join o ps)
  where
    go : (b : Bool) → Memᴰ x (cond b (o ∷ p ∷ ps) (p ∷ join o ps)) → (Memᴰ x (join o ps) → (x ≡ o) ⊎ Memᴰ x ps) → (x ≡ o) ⊎ Memᴰ x (p ∷ ps)
    go true n rec = Memᴰ.cases_cons n
    go false (Memᴰ.head e) rec = inr (Memᴰ.head e)
    go false (Memᴰ.tail n) rec = ⊎_elim inl (λ k. inr (Memᴰ.tail k)) (rec n)

pub length_join : (o : Offer) (os : List Offer) → length (join o os) ≡ suc (length os)
length_join o [] = refl
length_join o (p ∷ ps) = go (ahead o p) (length_join o ps)
  where
    go : (b : Bool) → length (join o ps) ≡ suc (length ps) → length (cond b (o ∷ p ∷ ps) (p ∷ join o ps)) ≡ suc (length (p ∷ ps))
    go true e = refl
    go false e = ap suc e

-- ---- the calls

pub withdraw_sound : (s : State) (n : ℤ) → Sound s → Sound (accepted s (withdraw n)).state
withdraw_sound s n h =
    record {
      capacity_low = h.capacity_low;
      capacity_high = h.capacity_high;
      ordered = Pairwise.sublistᴰ stay h.ordered;
      numbered = Pairwise.sublistᴰ stay h.numbered;
      ranged = λ o m. h.ranged o (sublist_mem stay m);
      fits = let k = sub_length stay in let f = h.fits in omega arith;
    }
  where
    stay : Sublistᴰ (leave n s.offers) s.offers
    stay = keep_sublist (λ o. not (has_number n o)) s.offers

-- whatever is remembered
pub sound_recalling : (s : State) (os : List Offer) (us vs : List Undo) → Sound (recalling s os us) → Sound (recalling s os vs)
sound_recalling s os us vs h =
    record {
      capacity_low = h.capacity_low;
      capacity_high = h.capacity_high;
      ordered = h.ordered;
      numbered = h.numbered;
      ranged = h.ranged;
      fits = h.fits;
    }

-- nor does what declines a post or a withdrawal depend on it
pub tried_recalling : (s : State) (us vs : List Undo) (u : Undo) → Clear (trials (recalling s s.offers us) (undoing u)) →
    Clear (trials (recalling s s.offers vs) (undoing u))
tried_recalling s us vs (unpost n) c = c
tried_recalling s us vs (restore o) c = c

pub opened_sound : (words start : ℕ) (c : ℤ) → Clear (open_trials words start c) → Sound (opened c)
opened_sound words start c (range, rest) = fresh c (not_not (between (pos 1) (pos 4_096) c) range)
  where
    fresh : (c : ℤ) → T (between (pos 1) (pos 4_096) c) → Sound (opened c)
    fresh (pos n) t =
        let (l, h) = range_parts (pos 1) (pos n) (pos 4_096) t in
        record {
          capacity_low = omega arith;
          capacity_high = omega arith;
          ordered = Pairwise.nil;
          numbered = Pairwise.nil;
          ranged = λ o m. elim m [ ];
          fits = omega arith;
        }
    fresh (negsuc n) t = absurd t

-- A refused call changes nothing.
pub refused_keeps : (s : State) (k : Call) (n : ℕ) → (step s k).answer ≡ refused n → (step s k).state ≡ s
refused_keeps s k n e = go (declined (trials s k)) k e
  where
    go : (d : Option Cause) (k : Call) → (respond s k d).answer ≡ refused n → (respond s k d).state ≡ s
    go (some c) k e = refl
    go none (post m r b) e = let z : ◌≡◌ {A = ℕ} 0 1 = cc in absurd (omega arith)
    go none (withdraw m) e = let z : ◌≡◌ {A = ℕ} 0 1 = cc in absurd (omega arith)
    go none (query q) e = refl
    go none (listing room) e = refl
    go none (report q p room) e = refl
    go none take_back e = taken s.memory e
      where
        taken : (m : List Undo) → (accepted (recalling s s.offers m) take_back).answer ≡ refused n → (accepted (recalling s s.offers m) take_back).state ≡
            recalling s s.offers m
        taken [] d = refl
        taken (u ∷ us) d = let z : ◌≡◌ {A = ℕ} 0 1 = cc in absurd (omega arith)
