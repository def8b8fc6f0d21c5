-- Theorems on specs/Sound.
use Rattle.std.specs.Prelude.{◌≡◌, refl, ◌⊎◌, ◌≢◌, Bool, true, false, not, ◌&&◌, cond, ℕ, suc, ◌≤◌, length, T, ℤ, pos, negsuc}
use Rattle.std.proofs.Common.{sym, subst, ap, inl, inr, ⊎_elim, arith, T_not}
use mathlib.Core.HLevel.{¬_prop}
use mathlib.Core.List.Memᴰ
use mathlib.Core.List.Pairwise
use mathlib.Core.List.{List, [], ◌∷◌, Memᴰ, Pairwise}
use mathlib.Core.List.{rel_of_Pairwise-cons, Sublistᴰ}
use Rattle.std.proofs.Math.Option.{Option, none, some}
use Rattle.std.proofs.Math.Dec.{T_prop, nleb→lt}
use Rattle.lists.specs.Filter.{keep_sublist}
use Rattle.lists.specs.Members.{sub_length, pairs_cons}
use Rattle.lists.specs.Places.{sublist_mem}
use Rattle.lists.specs.Tests.{none_at}
use Rattle.lists.specs.Bools.{and_both, not_not}
use Rattle.integers.specs.Parts.{range_parts, unequal}
use Rattle.offers.specs.Offers.{Offer, between, number_in_range, rate_in_range, base_in_range, offer_in_range, ahead}
use Rattle.offers.specs.Order.{Ahead, ahead_said, ahead_meant, ahead_trans, compare_offers}
use Rattle.plain.specs.Causes.{Cause, declined}
use Rattle.plain.specs.Causes.{Clear}
use Rattle.plain.specs.Trials.{clear}
use Rattle.plain.specs.Book.{State, Undo, unpost, restore, Call, post, withdraw, query, listing, take_back, report, refused, has_number, join, leave}
use Rattle.plain.specs.Book.{trials, opened, open_trials, accepted, respond, step, undone, undoing, Undoable, Recallable, recalling}
use Rattle.plain.specs.Sound.{Sound, length_join, mem_join, sound_recalling, tried_recalling, withdraw_sound}

-- A relation that holds of the new offer and each old one, the one ahead first, still holds of all pairs.
join_pairs : {R : Offer → Offer → Type 0} → ((x y : Offer) → IsProp (R x y)) → (o : Offer) (os : List Offer) → Pairwise (λ a b. T (ahead a b)) os →
    Pairwise R os → ((q : Offer) → Memᴰ q os → T (ahead o q) → R o q) → ((q : Offer) → Memᴰ q os → T (not (ahead o q)) → R q o) →
    Pairwise R (join o os)
join_pairs prop o [] p h f g = pairs_cons prop (λ b m. elim m [ ]) h
join_pairs {R} prop o (x ∷ xs) p h f g = go (ahead o x) (λ t. t) (λ t. t)
    (join_pairs prop o xs (Pairwise.of_cons p) (Pairwise.of_cons h) (λ q m. f q (Memᴰ.tail m)) (λ q m. g q (Memᴰ.tail m)))
  where
    onward : (b : Offer) → T (ahead o x) → T (ahead x b) → T (ahead o b)
    onward b t u = ahead_meant o b (ahead_trans (ahead_said o x t) (ahead_said x b u))

    later : T (ahead o x) → (b : Offer) → (b ≡ x) ⊎ Memᴰ b xs → R o b
    later t b (inl e) = f b (Memᴰ.head e) (subst (λ (y : Offer). T (ahead o y)) (sym e) t)
    later t b (inr m) = f b (Memᴰ.tail m) (onward b t (rel_of_Pairwise-cons p ∣ m ∣₁))

    earlier : T (not (ahead o x)) → (b : Offer) → (b ≡ o) ⊎ Memᴰ b xs → R x b
    earlier t b (inl e) = subst (λ (y : Offer). R x y) (sym e) (g x (Memᴰ.head refl) t)
    earlier t b (inr m) = rel_of_Pairwise-cons h ∣ m ∣₁

    go : (b : Bool) → (T b → T (ahead o x)) → (T (not b) → T (not (ahead o x))) → Pairwise R (join o xs) →
        Pairwise R (cond b (o ∷ x ∷ xs) (x ∷ join o xs))
    go true yes-is no-is rec = pairs_cons prop (λ b m. later (yes-is tt) b (Memᴰ.cases_cons m)) h
    go false yes-is no-is rec = pairs_cons prop (λ b m. earlier (no-is tt) b (mem_join o xs m)) rec

-- The order stays, where the new offer stands ahead of each old one or behind it.
pub join_ordered : (o : Offer) (os : List Offer) → Pairwise (λ a b. T (ahead a b)) os → ((x : Offer) → Memᴰ x os → Ahead o x ⊎ Ahead x o) →
    Pairwise (λ a b. T (ahead a b)) (join o os)
join_ordered o os p new = join_pairs (λ x y. T_prop (ahead x y)) o os p p (λ q m t. t) behind
  where
    behind : (q : Offer) → Memᴰ q os → T (not (ahead o q)) → T (ahead q o)
    behind q m t = ⊎_elim (λ k. absurd (T_not (ahead o q) t (ahead_meant o q k))) (ahead_meant q o) (new q m)

-- ---- the calls
post_sound : (s : State) (n r b : ℤ) → Sound s → Clear (trials s (post n r b)) → Sound (accepted s (post n r b)).state
post_sound s n r b h (cn, (cr, (cb, (live-n, (full, _))))) =
    record {
      capacity_low = h.capacity_low;
      capacity_high = h.capacity_high;
      ordered = join_ordered o os h.ordered (λ q m. ⊎_elim (λ e. absurd (other q m (ap (λ (x : Offer). x.number) (sym e)))) (λ k. k) (compare_offers o q));
      numbered = join_pairs (λ x y. ¬_prop) o os h.ordered h.numbered (λ q m t e. other q m (sym e)) (λ q m t. other q m);
      ranged = λ x m. ⊎_elim (λ e. subst (λ (y : Offer). T (offer_in_range y)) (sym e) in_range) (h.ranged x) (mem_join o os m);
      fits = let k = nleb→lt s.capacity (length os) full in let e = length_join o os in omega arith;
    }
  where
    os : List Offer
    os = s.offers

    o : Offer
    o = record { number = n; rate = r; base = b }

    other : (q : Offer) → Memᴰ q os → q.number ≢ n
    other q m = unequal q.number n (none_at (has_number n) os live-n q m)

    in_range : T (offer_in_range o)
    in_range = and_both (number_in_range n && rate_in_range r) (base_in_range b) (and_both (number_in_range n) (rate_in_range r) (not_not (number_in_range n) cn)
        (not_not (rate_in_range r) cr)) (not_not (base_in_range b) cb)

-- what is undone was a call that nothing declines
undone_sound : (s : State) (u : Undo) (us : List Undo) → Sound s → Clear (trials s (undoing u)) → Sound (recalling s (undone u s.offers) us)
undone_sound s (unpost n) us h c = sound_recalling s (leave n s.offers) _ us (withdraw_sound s n h)
undone_sound s (restore o) us h c = sound_recalling s (join o s.offers) _ us (post_sound s o.number o.rate o.base h c)

accepted_sound : (s : State) (k : Call) → Sound s → Recallable s → Clear (trials s k) → Sound (accepted s k).state
accepted_sound s (post n r b) h d c = post_sound s n r b h c
accepted_sound s (withdraw n) h d c = withdraw_sound s n h
accepted_sound s (query q) h d c = h
accepted_sound s (listing room) h d c = h
accepted_sound s (report q p room) h d c = h
accepted_sound s take_back h d c = go s.memory d h
  where
    go : (m : List Undo) → Undoable s.capacity s.offers m → Sound (recalling s s.offers m) →
        Sound (accepted (recalling s s.offers m) take_back).state
    go [] d h = h
    go (u ∷ us) (e, d) k = undone_sound s u us h (tried_recalling s us s.memory u e)

pub step_sound : (s : State) (k : Call) → Sound s → Recallable s → Sound (step s k).state
step_sound s k h u = go (declined (trials s k)) refl
  where
    go : (d : Option Cause) → declined (trials s k) ≡ d → Sound (respond s k d).state
    go none e = accepted_sound s k h u (clear (trials s k) e)
    go (some c) e = h
