-- After any list of calls with take-backs in it the book stands for the offers that the remaining accepted calls leave. Which calls remain is read off
-- the calls and their answers, and so is how many of them can be taken back; neither is read off what the book remembers.
use Rattle.std.specs.Prelude.{◌≡◌, refl, ℕ, zero, suc, ◌-◌, min, length, take, drop, ℤ}
use Rattle.std.proofs.Common.{sym, subst, ap, ap₂, ◌∙◌, arith, take-append-drop, length-take}
use mathlib.Core.List.{List, [], ◌∷◌, ◌++◌, tail, reverse, reverse_aux, append-nil, append_assoc, nil≢cons, head-eq_of_cons-eq, tail-eq_of_cons-eq}
use Rattle.std.proofs.Math.Option.{Option, none, some}
use Rattle.plain.specs.Causes.{Cause, declined, Clear}
use Rattle.plain.specs.Trials.{clear}
use Rattle.plain.specs.Book.{State, Undo, Call, post, withdraw, query, listing, take_back, report, Answer, refused, live, found, listed, reported}
use Rattle.plain.specs.Book.{undo_of, most_remembered, remember, undone, trials, holding, recalling, accepted, respond, step, after, answers, Recallable}
use Rattle.offers.specs.Offers.{Offer}
use Rattle.plain.specs.Sound.{Sound}
use Rattle.plain.specs.Rules.{step_accepted}
use Rattle.plain.specs.Undoing.{Updating, posting, withdrawing, Undoes}

-- ---- which calls remain

-- The calls that remain, the last one first, when a call is accepted: a post or a withdrawal is one more, a take-back takes the last one off. Queries,
-- listings and reports change no offer, and are not among them.
abbrev pub going : List Call → Call → List Call
going done (post n r b) = post n r b ∷ done
going done (withdraw n) = withdraw n ∷ done
going done take_back = tail done
going done (query q) = done
going done (listing room) = done
going done (report q p room) = done

-- .. and when it was so answered: a refused one changes nothing.
abbrev pub remains : List Call → Call → Answer → List Call
remains done k (refused n) = done
remains done k (live n) = going done k
remains done k (found n p m) = going done k
remains done k (listed n ws) = going done k
remains done k (reported n ws) = going done k

-- .. and after a list of calls, with its answers.
abbrev pub remainder : List Call → List Call → List Answer → List Call
remainder done (k ∷ ks) (a ∷ told) = remainder (remains done k a) ks told
remainder done [] told = done
remainder done (k ∷ ks) [] = done

-- Those that remain of a list of calls with its answers, in the order of the calls.
abbrev pub remaining : List Call → List Answer → List Call
remaining ks told = reverse (remainder [] ks told)

-- Each is accepted where it stands.
abbrev pub AllAccepted : State → List Call → Type 0
AllAccepted s [] = Unit {0}
AllAccepted s (k ∷ ks) = Clear (trials s k) × AllAccepted (step s k).state ks

pub record Remains (s : State) (ks : List Call) : Type 0 where
  -- each remaining call is accepted again when only those are made
  pub accepted : AllAccepted s (remaining ks (answers s ks))
  -- .. and they leave the same offers
  pub offers : (after s (remaining ks (answers s ks))).offers ≡ (after s ks).offers

-- ---- how many can be taken back

-- An accepted post or withdrawal is one more, up to 256, and an accepted take-back one less: an update that fell out of memory stays out.
abbrev pub count_back : ℕ → Call → ℕ
count_back n (post m r b) = min 256 (suc n)
count_back n (withdraw m) = min 256 (suc n)
count_back n take_back = n - 1
count_back n (query q) = n
count_back n (listing room) = n
count_back n (report q p room) = n

abbrev pub can_take : ℕ → Call → Answer → ℕ
can_take n k (refused m) = n
can_take n k (live m) = count_back n k
can_take n k (found m p q) = count_back n k
can_take n k (listed m ws) = count_back n k
can_take n k (reported m ws) = count_back n k

abbrev pub can_take_all : ℕ → List Call → List Answer → ℕ
can_take_all n (k ∷ ks) (a ∷ told) = can_take_all (can_take n k a) ks told
can_take_all n [] told = n
can_take_all n (k ∷ ks) [] = n

-- ---- only those are made

-- The state after calls that are given the last one first.
abbrev pub ran : State → List Call → State
ran s [] = s
ran s (k ∷ done) = (step (ran s done) k).state

-- They are posts and withdrawals, each accepted where it stands.
abbrev Done : State → List Call → Type 0
Done s [] = Unit {0}
Done s (k ∷ done) = Updating k × Clear (trials (ran s done) k) × Done s done

pub ran_after : (s : State) (done ks : List Call) → after (ran s done) ks ≡ after s (reverse_aux done ks)
ran_after s [] ks = refl
ran_after s (k ∷ done) ks = ran_after s done (k ∷ ks)

pub ran_accepted : (s : State) (done ks : List Call) → Done s done → AllAccepted (ran s done) ks → AllAccepted s (reverse_aux done ks)
ran_accepted s [] ks d a = a
ran_accepted s (k ∷ done) ks (u, c, d) a = ran_accepted s done (k ∷ ks) d (c, a)

-- ---- a book that remembers more

-- The same slots and offers, with older entries behind what is remembered.
abbrev more : State → List Undo → State
more t rest = recalling t t.offers (t.memory ++ rest)

-- the first few of a longer list, and what is behind them
take_more : {A : Type 0} (n : ℕ) (xs ys : List A) → (zs : List A) × (take n (xs ++ ys) ≡ take n xs ++ zs)
take_more zero xs ys = ([], refl)
take_more (suc n) [] ys = (take (suc n) ys, refl)
take_more {A} (suc n) (x ∷ xs) ys = let (zs, e) = take_more n xs ys in (zs, ap {B = List A} (λ (r : List A). x ∷ r) e)

take_first : {A : Type 0} {x y : A} {ys : List A} (n : ℕ) (xs : List A) → take n (x ∷ xs) ≡ y ∷ ys → (x ≡ y) × ((zs : List A) × (xs ≡ ys ++ zs))
take_first zero xs e = absurd (nil≢cons e)
take_first {A} (suc n) xs e =
    (head-eq_of_cons-eq e, (drop n xs, sym (take-append-drop n xs) ∙ ap (λ (r : List A). r ++ drop n xs) (tail-eq_of_cons-eq e)))

-- it accepts the same updates, and they leave it alike
more_clear : {k : Call} → Updating k → (t : State) (rest : List Undo) → Clear (trials t k) → Clear (trials (more t rest) k)
more_clear posting t rest c = c
more_clear withdrawing t rest c = c

updated : {k : Call} → Updating k → (t : State) (us : List Undo) →
    (accepted (recalling t t.offers us) k).state ≡ recalling t (accepted t k).state.offers (remember (undo_of t.offers k) us)
updated posting t us = refl
updated withdrawing t us = refl

more_updated : {k : Call} → Updating k → (t : State) (rest : List Undo) →
    (older : List Undo) × ((accepted (more t rest) k).state ≡ more (accepted t k).state older)
more_updated {k} u t rest =
    let new : List Undo = undo_of t.offers k in
    let (older, e) = take_more most_remembered (new ++ t.memory) rest in (
      older,
      updated u t (t.memory ++ rest)
          ∙ ap (recalling t (accepted t k).state.offers) (ap (take most_remembered) (sym (append_assoc new t.memory rest)) ∙ e)
          ∙ ap (λ (a : State). more a older) (sym (updated u t t.memory)),
    )

-- .. and where the last update is undone, what is left stands so to the book before that update
pub more_undone : {k : Call} → Updating k → (r t : State) (u : Undo) (us rest : List Undo) → Undoes r k →
    (accepted r k).state ≡ recalling t t.offers (u ∷ (us ++ rest)) → (older : List Undo) × (r ≡ more (recalling t (undone u t.offers) us) older)
more_undone {k} up r t u us rest d e =
    let (same, (zs, m)) = take_first most_remembered r.memory (rw d.only at (ap (λ (a : State). a.memory) made)) in
    let held : r.offers ≡ undone u t.offers = sym d.back ∙ ap₂ undone same (ap (λ (a : State). a.offers) made) in
    let older : r.memory ≡ us ++ (rest ++ zs) = m ∙ append_assoc us rest zs in
    (rest ++ zs, λ i. record { capacity = (made i).capacity; offers = held i; memory = older i })
  where
    made : recalling r (accepted r k).state.offers (remember (undo_of r.offers k) r.memory) ≡ recalling t t.offers (u ∷ (us ++ rest))
    made = sym (updated up r r.memory) ∙ e

-- ---- the book and the calls that remain

-- Made alone, they are accepted and make this book, but for older entries: a call that was taken back may have pushed some out of this one's memory.
pub record Standing (s : State) (done : List Call) (t : State) : Type 0 where
  pub made : Done s done
  pub older : List Undo
  pub same : ran s done ≡ more t older

-- a query changes nothing, whatever it is told
pub asked : (q : ℤ) (done : List Call) (a : Answer) → remains done (query q) a ≡ done
asked q done (refused n) = refl
asked q done (live n) = refl
asked q done (found n p m) = refl
asked q done (listed n ws) = refl
asked q done (reported n ws) = refl

module _ (s : State) (h : Sound s) (fresh : s.memory ≡ []) where
  pub one_more : {k : Call} (u : Updating k) (done : List Call) (t : State) → Standing s done t → Clear (trials t k) → Standing s (k ∷ done) (accepted t k).state
  one_more {k} u done t w c =
      let d : Clear (trials (ran s done) k) = subst (λ (a : State). Clear (trials a k)) (sym w.same) (more_clear u t w.older c) in
      let (older, e) = more_updated u t w.older in
      record {
        made = (u, d, w.made);
        older = older;
        same = ap (λ a. a.state) (step_accepted (ran s done) k d) ∙ ap (λ (a : State). (accepted a k).state) w.same ∙ e;
      }

-- ---- as many as can be taken back are remembered
