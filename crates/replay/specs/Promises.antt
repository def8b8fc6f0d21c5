-- What a run of encoded calls promises. `t` are the table's words before it and `t'` those after it, `calls` the encoded calls, `out` and `out'`
-- the words that answers are written to, before and after.
use Rattle.std.specs.Prelude.{◌≡◌, Bool, true, false, List, ℕ, ◌*◌, length, leb, ℤ, pos, nat_abs, Result, Ok, Err}
use Rattle.std.proofs.Math.Option.{Option, none}
use Rattle.plain.specs.Causes.{Cause, cause_number, FirstOf, Clear}
use Rattle.plain.specs.Book.{State, Call, Answer, opened, open_trials, answers}
use Rattle.dynamic.specs.OfferTree.{Held}
use Rattle.table.specs.Items.{Item}
use Rattle.form.specs.Form.{Form}
use Rattle.causes.specs.declared.Declined.{Declined}
use Rattle.causes.specs.Numbers.{number_of}
use Rattle.promises.specs.Promises.{part_of, capacity_at, OnlyPart, Opens}
use Rattle.history.specs.History.{History}
use Rattle.history.specs.Claim.{Claim}
use Rattle.replay.specs.declared.Replayed.{Replayed}
use Rattle.replay.specs.declared.Replayed.TheVariants.{Ran, Stopped}
use Rattle.replay_words.specs.Encoding.{runnable, Run, told, Spares}
use Rattle.replay_call.specs.Telling.{Tells}

-- These calls were made, one after the other, and the words are their answers'. It holds on words of any content; c is any capacity.
pub record Made (c start : ℕ) (t t' : List ℤ) (ks : List Call) (out out' : List ℤ) : Type 0 where
  pub answered : List Answer
  pub history : History c start t ks answered t'
  pub tells : Tells history out out'

-- ---- what a run answers, in numbers

-- how many calls were run, and whether those are all; or the number of the cause for which the opening was declined
pub data RunAnswer : Type 0 where
  ran : (calls : ℕ) (all : Bool) → RunAnswer
  unopened : ℤ → RunAnswer

abbrev pub run_answer : Result Replayed Declined → RunAnswer
run_answer (Ok (Ran n)) = ran n true
run_answer (Ok (Stopped n)) = ran n false
run_answer (Err c) = unopened (number_of c)

-- n calls were run: all, if no word is left
abbrev pub run_count : List ℤ → ℕ → RunAnswer
run_count calls n = ran n (leb (length calls) (4 * n))

-- ---- the promises

-- On a part that is there already. The calls run are those up to the first that is unreadable or whose answer does not fit.
pub record Resumes (start : ℕ) (t t' calls out out' : List ℤ) (r : Result Replayed Declined) : Type 0 where
  pub count : run_answer r ≡ run_count calls (length (runnable calls (length out)))
  pub reach : Run calls (length out) (runnable calls (length out))
  pub made : (c : ℕ) → Made c start t t' (runnable calls (length out)) out out'
  pub long : length out' ≡ length out
  pub outside : OnlyPart (capacity_at t start) start t t'
  -- where the part passes the check
  pub claim : (s : State) (held : Option (Held Item)) → Form (part_of t start) s held → Claim s held (made s.capacity).history
  pub right : (s : State) (held : Option (Held Item)) → Form (part_of t start) s held →
      told (runnable calls (length out)) out' ≡ answers s (runnable calls (length out))
  pub spares : (s : State) (held : Option (Held Item)) → Form (part_of t start) s held →
      Spares (runnable calls (length out)) (answers s (runnable calls (length out))) out out'

-- After an accepted opening, with its answer and the words `t₀` that it left.
pub record Begun (c : ℤ) (start : ℕ) (t t' calls out out' : List ℤ) (r : Result Replayed Declined) : Type 0 where
  pub t₀ : List ℤ
  pub opening : Result (Unit {0}) Declined
  pub opens : Opens c start t t₀ opening
  pub resumes : Resumes start t₀ t' calls out out' r
  pub claim : Claim (opened c) none (resumes.made (nat_abs c)).history
  pub right : told (runnable calls (length out)) out' ≡ answers (opened c) (runnable calls (length out))
  pub spares : Spares (runnable calls (length out)) (answers (opened c) (runnable calls (length out))) out out'
  pub outside : OnlyPart (nat_abs c) start t t'

pub record Replays (c : ℤ) (start : ℕ) (t t' calls out out' : List ℤ) (r : Result Replayed Declined) : Type 0 where
  pub declined : (k : Cause) → FirstOf (open_trials (length t) start c) k → (run_answer r ≡ unopened (pos (cause_number k))) × (t' ≡ t) × (out' ≡ out)
  pub accepted : Clear (open_trials (length t) start c) → Begun c start t t' calls out out' r
