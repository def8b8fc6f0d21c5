-- Theorems on specs/Remaining.
use Rattle.std.specs.Prelude.{◌≡◌, refl, ℕ, zero, suc, ◌-◌, min, length, take, drop, ℤ}
use Rattle.std.proofs.Common.{sym, subst, ap, ap₂, ◌∙◌, arith, take-append-drop, length-take}
use mathlib.Core.List.{List, [], ◌∷◌, ◌++◌, tail, reverse, reverse_aux, append-nil, append_assoc, nil≢cons, head-eq_of_cons-eq, tail-eq_of_cons-eq}
use Rattle.std.proofs.Math.Option.{Option, none, some}
use Rattle.plain.specs.Causes.{Cause, declined, Clear}
use Rattle.plain.specs.Trials.{clear}
use Rattle.plain.specs.Book.{State, Undo, Call, post, withdraw, query, listing, take_back, report, Answer, refused, live, found, listed, reported}
use Rattle.plain.specs.Book.{undo_of, most_remembered, remember, undone, trials, holding, recalling, accepted, respond, step, after, answers, Recallable}
use Rattle.offers.specs.Offers.{Offer}
use Rattle.plain.specs.Sound.{Sound}
use Rattle.plain.proofs.Sound.{step_sound}
use Rattle.plain.specs.Rules.{step_accepted}
use Rattle.plain.specs.Undoing.{Updating, posting, withdrawing, Undoes}
use Rattle.plain.proofs.Undoing.{undoes, step_recallable, after_sound}
use Rattle.plain.specs.Remaining.{Remains, Standing, asked, can_take, can_take_all, more_undone, one_more, ran, ran_accepted, ran_after, remainder, remains}

ran_sound : (s : State) (done : List Call) → Sound s → Recallable s → Sound (ran s done)
ran_sound s done h r = subst Sound (sym (ran_after s done [])) (after_sound s (reverse done) h r).0

module _ (s : State) (h : Sound s) (fresh : s.memory ≡ []) where
  sound : (done : List Call) → Sound (ran s done)
  sound done = ran_sound s done h (rw fresh tt)

  one_back : (done : List Call) (t : State) (us : List Undo) → Standing s done (recalling t t.offers us) →
      Standing s (remains done take_back (accepted (recalling t t.offers us) take_back).answer) (accepted (recalling t t.offers us) take_back).state
  one_back done t [] w = w
  one_back [] t (u ∷ us) w = absurd (nil≢cons (sym fresh ∙ ap (λ (a : State). a.memory) w.same))
  one_back (k ∷ done) t (u ∷ us) w =
      let (up, c, d) = w.made in
      let (older, e) = more_undone up (ran s done) t u us w.older (undoes (ran s done) k (sound done) up c)
      (sym (ap (λ a. a.state) (step_accepted (ran s done) k c)) ∙ w.same) in
      record { made = d; older = older; same = e }

  one_call : (done : List Call) (t : State) (k : Call) → Standing s done t → Standing s (remains done k (step t k).answer) (step t k).state
  one_call done t k w = go (declined (trials t k)) k (clear (trials t k))
    where
      go : (d : Option Cause) (k : Call) → (d ≡ none → Clear (trials t k)) → Standing s (remains done k (respond t k d).answer) (respond t k d).state
      go (some c) k p = w
      go none (post n r b) p = (one_more s h fresh) posting done t w (p refl)
      go none (withdraw n) p = (one_more s h fresh) withdrawing done t w (p refl)
      go none (query q) p = rw (asked q done (accepted t (query q)).answer) w
      go none (listing room) p = w
      go none (report q l room) p = w
      go none take_back p = one_back done t t.memory w

  all_calls : (ks done : List Call) (t : State) → Standing s done t → Standing s (remainder done ks (answers t ks)) (after t ks)
  all_calls [] done t w = w
  all_calls (k ∷ ks) done t w = all_calls ks (remains done k (step t k).answer) (step t k).state (one_call done t k w)

pub remaining_leaves : (s : State) → Sound s → s.memory ≡ [] → (ks : List Call) → Remains s ks
remaining_leaves s h fresh ks =
    record {
      accepted = ran_accepted s done [] w.made tt;
      offers = ap (λ (a : State). a.offers) (sym (ran_after s done []) ∙ w.same);
    }
  where
    done : List Call
    done = remainder [] ks (answers s ks)

    w : Standing s done (after s ks)
    w = all_calls s h fresh ks [] s (record { made = tt; older = []; same = ap (recalling s s.offers) (sym (append-nil s.memory)) })

-- ---- as many as can be taken back are remembered
step_count : (s : State) (k : Call) → Sound s → length (step s k).state.memory ≡ can_take (length s.memory) k (step s k).answer
step_count s k h = go (declined (trials s k)) k refl
  where
    one : (k : Call) → Updating k → Clear (trials s k) → length (remember (undo_of s.offers k) s.memory) ≡ min 256 (suc (length s.memory))
    one k u c =
        let e = undoes s k h u c in
        ap (λ (us : List Undo). length (remember us s.memory)) e.only ∙ length-take most_remembered (e.entry ∷ s.memory)

    back : (us : List Undo) → length (accepted (recalling s s.offers us) take_back).state.memory ≡
        can_take (length us) take_back (accepted (recalling s s.offers us) take_back).answer
    back [] = refl
    back (u ∷ us) = omega arith

    asked : (os : List Offer) (q : ℤ) → length s.memory ≡ can_take (length s.memory) (query q) (accepted (holding s os) (query q)).answer
    asked [] q = refl
    asked (o ∷ os) q = refl

    go : (d : Option Cause) (k : Call) → declined (trials s k) ≡ d →
        length (respond s k d).state.memory ≡ can_take (length s.memory) k (respond s k d).answer
    go (some c) k e = refl
    go none (post n r b) e = one (post n r b) posting (clear (trials s (post n r b)) e)
    go none (withdraw n) e = one (withdraw n) withdrawing (clear (trials s (withdraw n)) e)
    go none (query q) e = asked s.offers q
    go none (listing room) e = refl
    go none (report q p room) e = refl
    go none take_back e = back s.memory

-- So a take-back is declined with 17 exactly where that number is 0.
pub remembered_count : (s : State) → Sound s → Recallable s → (ks : List Call) →
    length (after s ks).memory ≡ can_take_all (length s.memory) ks (answers s ks)
remembered_count s h r [] = refl
remembered_count s h r (k ∷ ks) =
    remembered_count (step s k).state (step_sound s k h r) (step_recallable s k h r) ks
    ∙ ap (λ (n : ℕ). can_take_all n ks (answers (step s k).state ks)) (step_count s k h)
