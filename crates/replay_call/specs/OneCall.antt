-- One encoded call, made: what it does to the table and to the words that are lent for its answer.
use Rattle.std.specs.Prelude.{◌≡◌, true, false, List, ℕ, ◌≤◌, ◌<◌, length, drop, ℤ, leb}
use Rattle.std.proofs.Math.Option.{some}
use Rattle.plain.specs.Book.{Call, Answer}
use Rattle.history.specs.History.{Happens}
use Rattle.replay_words.specs.Encoding.{next_call, stretch, fitting}
use Rattle.replay_call.specs.Telling.{TellsOne}

pub record Performed (k : Call) (start : ℕ) (t t' ws ws' : List ℤ) : Type 0 where
  pub answer : Answer
  pub happens : Happens start t k t' answer
  pub tells : TellsOne happens ws ws'
  pub long : length ws' ≡ length ws
  pub later : drop (stretch k) ws' ≡ drop (stretch k) ws

-- the next call, where it can be run
pub record Ready (k : Call) (cs ws : List ℤ) : Type 0 where
  pub reads : next_call cs ≡ some k
  pub fits : leb (stretch k) (length ws) ≡ true

pub record Step (start : ℕ) (t t' cs ws ws' : List ℤ) (used : ℕ) : Type 0 where
  pub stopped : used ≤ 0 → (fitting (next_call cs) (length ws) ≡ false) × (t' ≡ t) × (ws' ≡ ws)
  pub ran : 0 < used → (k : Call) × Ready k cs ws × Performed k start t t' ws ws' × (used ≡ stretch k)
