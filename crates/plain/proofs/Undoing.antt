-- Theorems on specs/Undoing.
use Rattle.std.specs.Prelude.{◌≡◌, refl, ◌≢◌, Bool, true, false, not, ◌&&◌, cond, ℕ, zero, suc, ◌≤◌, ◌<◌, length, take, T, ℤ}
use Rattle.std.proofs.Common.{sym, subst, ap, ◌∙◌, inl, arith, length-take, take_all, T_not}
use mathlib.Core.List.Pairwise
use mathlib.Core.List.{List, [], ◌∷◌, ◌++◌, map, Memᴰ, Pairwise, rel_of_Pairwise-cons}
use Rattle.std.proofs.Math.Option.{Option, none, some}
use Rattle.std.proofs.Math.Dec.{not_T}
use Rattle.std.proofs.Math.Arith.{lt→nleb}
use Rattle.lists.specs.Filter.{keep, keep_all, keep_passes}
use Rattle.lists.specs.Tests.{any, none_at, any_some, not_any}
use Rattle.lists.specs.Bools.{twice, not_not, not_failed, and_left, and_right, cond_yes, cond_no}
use Rattle.integers.specs.Parts.{equal_is, equal_eq, unequal}
use Rattle.offers.specs.Offers.{Offer, number_in_range, rate_in_range, base_in_range, ahead}
use Rattle.offers.specs.Order.{ahead_said, ahead_asym}
use Rattle.plain.specs.Causes.{Cause, declined, Clear}
use Rattle.plain.specs.Trials.{clear}
use Rattle.plain.specs.Book.{State, Undo, unpost, restore, Call, post, withdraw, query, listing, take_back, report, has_number, join, leave, undo_of}
use Rattle.plain.specs.Book.{most_remembered, remember, undone, trials, opened, recalling, accepted, respond, step, after, undoing, Undoable, Recallable}
use Rattle.plain.specs.Sound.{Sound, length_join, tried_recalling}
use Rattle.plain.proofs.Sound.{step_sound}
use Rattle.plain.proofs.LiveAfter.{post_adds}
use Rattle.plain.specs.Undoing.{Undoes, Updating, joins_first, joins_later, kept_one, leaves_first, none_leaves, posting, some_has, stays_first, update_recallable, withdrawing}

-- ---- a new offer joins and leaves
pub join_leave : (o : Offer) (os : List Offer) → ((x : Offer) → Memᴰ x os → x.number ≢ o.number) → leave o.number (join o os) ≡ os
join_leave o [] other = leaves_first o.number o [] refl
join_leave o (p ∷ ps) other = go (ahead o p) (join_leave o ps (λ x m. other x (Memᴰ.tail m)))
  where
    n : ℤ
    n = o.number

    go : (b : Bool) → leave n (join o ps) ≡ ps → leave n (cond b (o ∷ p ∷ ps) (p ∷ join o ps)) ≡ p ∷ ps
    go true e = leaves_first n o (p ∷ ps) refl ∙ none_leaves n (p ∷ ps) other
    go false e = stays_first n p (join o ps) (other p (Memᴰ.head refl)) ∙ ap {B = List Offer} (λ (r : List Offer). p ∷ r) e

pub leave_join : (o : Offer) (os : List Offer) → Pairwise (λ a b. T (ahead a b)) os → Pairwise (λ a b. a.number ≢ b.number) os → Memᴰ o os →
    join o (leave o.number os) ≡ os
leave_join o [] p q x3 = elim x3 [ ]
leave_join o (x ∷ xs) p q (Memᴰ.head e) =
    ap (join o) (leaves_first o.number x xs (ap (λ (y : Offer). y.number) (sym e)) ∙ none_leaves o.number xs other)
    ∙ joins_first o xs (λ y m. subst (λ (z : Offer). T (ahead z y)) (sym e) (rel_of_Pairwise-cons p ∣ m ∣₁))
    ∙ ap (λ (y : Offer). y ∷ xs) e
  where
    other : (y : Offer) → Memᴰ y xs → y.number ≢ o.number
    other y m d = rel_of_Pairwise-cons q ∣ m ∣₁ (ap (λ (z : Offer). z.number) (sym e) ∙ sym d)
leave_join o (x ∷ xs) p q (Memᴰ.tail m) =
    ap (join o) (stays_first o.number x xs (rel_of_Pairwise-cons q ∣ m ∣₁))
    ∙ joins_later o x (leave o.number xs) (rel_of_Pairwise-cons p ∣ m ∣₁)
    ∙ ap {B = List Offer} (λ (r : List Offer). x ∷ r) (leave_join o xs (Pairwise.of_cons p) (Pairwise.of_cons q) m)

-- ---- what undoes an accepted update
post_undoes : (s : State) (n r b : ℤ) → Clear (trials s (post n r b)) → Undoes s (post n r b)
post_undoes s n r b (cn, (cr, (cb, (live-n, (full, _))))) =
    record {
      entry = unpost n;
      only = refl;
      back = join_leave o s.offers (λ x m. unequal x.number n (none_at (has_number n) s.offers live-n x m));
      tried = λ us. (cn, (twice (any (has_number n) (join o s.offers)) (some_has o (join o s.offers) ((post_adds o s.offers).1 (inl refl))), tt));
    }
  where
    o : Offer
    o = record { number = n; rate = r; base = b }

withdraw_undoes : (s : State) (o : Offer) → Sound s → Memᴰ o s.offers → Undoes s (withdraw o.number)
withdraw_undoes s o h m =
    record {
      entry = restore o;
      only = ap (map restore) (kept_one o s.offers h.numbered m);
      back = back;
      tried = λ us. (
        twice (number_in_range n) (and_left (number_in_range n) (rate_in_range o.rate) front),
        (
          twice (rate_in_range o.rate) (and_right (number_in_range n) (rate_in_range o.rate) front),
          (
            twice (base_in_range o.base) (and_right (number_in_range n && rate_in_range o.rate) (base_in_range o.base) (h.ranged o m)),
            (not_any (has_number n) left (keep_passes (λ x. not (has_number n x)) s.offers), (lt→nleb s.capacity (length left) room, tt)),
          ),
        ),
      );
    }
  where
    n : ℤ
    n = o.number

    left : List Offer
    left = leave n s.offers

    back : join o left ≡ s.offers
    back = leave_join o s.offers h.ordered h.numbered m

    front : T (number_in_range n && rate_in_range o.rate)
    front = and_left (number_in_range n && rate_in_range o.rate) (base_in_range o.base) (h.ranged o m)

    room : suc (length left) ≤ s.capacity
    room = let e = length_join o left in let d = ap length back in let f = h.fits in omega arith

pub undoes : (s : State) (k : Call) → Sound s → Updating k → Clear (trials s k) → Undoes s k
undoes s k h (posting {n} {r} {b}) c = post_undoes s n r b c
undoes s k h (withdrawing {n}) (cn, (live-n, _)) =
    let (o, m, t) = any_some (has_number n) s.offers (not_not (any (has_number n) s.offers) live-n) in
    subst (λ (i : ℤ). Undoes s (withdraw i)) (equal_eq o.number n t) (withdraw_undoes s o h m)

pub accepted_recallable : (s : State) (k : Call) → Sound s → Recallable s → Clear (trials s k) → Recallable (accepted s k).state
accepted_recallable s (post n r b) h d c = update_recallable s (post n r b) (undoes s (post n r b) h posting c) d
accepted_recallable s (withdraw n) h d c = update_recallable s (withdraw n) (undoes s (withdraw n) h withdrawing c) d
accepted_recallable s (query q) h d c = d
accepted_recallable s (listing room) h d c = d
accepted_recallable s (report q p room) h d c = d
accepted_recallable s take_back h d c = go s.memory d
  where
    go : (us : List Undo) → Undoable s.capacity s.offers us → Recallable (accepted (recalling s s.offers us) take_back).state
    go [] d = tt
    go (u ∷ us) (e, d) = d

pub step_recallable : (s : State) (k : Call) → Sound s → Recallable s → Recallable (step s k).state
step_recallable s k h u = go (declined (trials s k)) refl
  where
    go : (d : Option Cause) → declined (trials s k) ≡ d → Recallable (respond s k d).state
    go none e = accepted_recallable s k h u (clear (trials s k) e)
    go (some c) e = u

-- ---- after every list of calls
pub after_sound : (s : State) (ks : List Call) → Sound s → Recallable s → Sound (after s ks) × Recallable (after s ks)
after_sound s [] h d = (h, d)
after_sound s (k ∷ ks) h d = after_sound (step s k).state ks (step_sound s k h d) (step_recallable s k h d)
