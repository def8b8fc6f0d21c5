-- A run that has ended keeps its promise, and so does one from an opening on.
use Rattle.std.specs.Prelude.{◌≡◌, refl, List, ℕ, ◌*◌, ◌≤◌, ◌<◌, length, ℤ, nat_abs, Result, Ok}
use Rattle.std.proofs.Common.{◌∙◌, ap, subst, arith, le-leb}
use Rattle.std.proofs.Math.Option.{Option, none}
use Rattle.std.proofs.lemmas.Bool.{lt-leb}
use Rattle.plain.specs.Causes.{Cause, FirstOf, Clear}
use Rattle.plain.specs.Book.{State, Answer, opened, open_trials}
use Rattle.dynamic.specs.OfferTree.{Held}
use Rattle.table.specs.Items.{Item}
use Rattle.form.specs.Form.{Form}
use Rattle.causes.specs.declared.Declined.{Declined}
use Rattle.promises.specs.Promises.{part_of, capacity_at, Opens}
use Rattle.form.specs.There.{cap_there}
use Rattle.history.proofs.Claim.{from_book}
use Rattle.replay.specs.declared.Replayed.{Replayed}
use Rattle.replay.specs.declared.Replayed.TheVariants.{Ran, Stopped}
use Rattle.replay_words.specs.Encoding.{runnable, Spares}
use Rattle.replay_words.specs.Laws.{run_reach}
use Rattle.replay.specs.Right.{told_right, spares_right}
use Rattle.replay.specs.Promises.{run_answer, run_count, Resumes, Begun, Replays}
use Rattle.replay.specs.Running.{Ended, only_then}

module _ {start : ℕ} {t t' calls out out' : List ℤ} {n : ℕ} (e : Ended start t t' calls out out' n) where
  resumes : {r : Result Replayed Declined} → run_answer r ≡ run_count calls n → Resumes start t t' calls out out' r
  resumes q =
      record {
        count = q ∙ ap (run_count calls) e.count;
        reach = run_reach calls (length out);
        made = e.made;
        long = e.long;
        outside = e.outside;
        claim = λ s held b. from_book (e.made s.capacity).history s held refl b;
        right = λ s held b.
            let m = e.made s.capacity in
            let k = (from_book m.history s held refl b).told in
            told_right m.history out out' m.tells s k ∙ k;
        spares = λ s held b.
            let m = e.made s.capacity in
            subst (λ (as' : List Answer). Spares (runnable calls (length out)) as' out out') (from_book m.history s held refl b).told
            (spares_right m.history out out' m.tells s held refl b);
      }

  pub resumes_all : length calls ≤ 4 * n → Resumes start t t' calls out out' (Ok (Ran n))
  resumes_all h = resumes (rw (le-leb (length calls) (4 * n) h))

  pub resumes_some : 4 * n < length calls → Resumes start t t' calls out out' (Ok (Stopped n))
  resumes_some h = resumes (rw (lt-leb (length calls) (4 * n) h))

-- ---- from an opening on

-- the first word of a book tells its capacity
told_capacity : (start : ℕ) (t : List ℤ) {s : State} {held : Option (Held Item)} → Form (part_of t start) s held → capacity_at t start ≡ s.capacity
told_capacity start t f = ap nat_abs (cap_there (part_of t start) f.book.capacity f.book.some_slot).first

module _ {c : ℤ} {start : ℕ} {t t₀ : List ℤ} {o : Result (Unit {0}) Declined} (p : Opens c start t t₀ o) where
  pub replays_opened : {t' calls out out' : List ℤ} {r : Result Replayed Declined} → o ≡ Ok tt → Resumes start t₀ t' calls out out' r →
      Replays c start t t' calls out out' r
  replays_opened {t'} {calls} {out} {out'} {r} e s = record { declined = λ k f. absurd (is_open k f); accepted = λ clear. goes (p.accepted clear).1 clear }
    where
      is_open : (k : Cause) → FirstOf (open_trials (length t) start c) k → ⊥
      is_open k f = let (b, q, n) = (p.declined k f).0 in let x : ◌≡◌ {A = ℕ} 0 1 = cc in omega arith

      goes : Form (part_of t₀ start) (opened c) none → Clear (open_trials (length t) start c) → Begun c start t t' calls out out' r
      goes b clear =
          record {
            t₀ = t₀;
            opening = o;
            opens = p;
            resumes = s;
            claim = s.claim (opened c) none b;
            right = s.right (opened c) none b;
            spares = s.spares (opened c) none b;
            outside = only_then (p.accepted clear).2 (told_capacity start t₀ b) s.outside;
          }
