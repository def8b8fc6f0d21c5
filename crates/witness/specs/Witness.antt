-- An accepted opening and a history of seven calls with their answers, all as literals: what the theorem about every history speaks of is there.
use Rattle.std.specs.Prelude.{◌≡◌, List, [], ◌∷◌, length, ℤ, pos, Result, Ok}
use Rattle.plain.specs.Causes.{Clear}
use Rattle.plain.specs.Book.{Call, post, withdraw, query, listing, take_back, Answer, live, found, listed, open_trials}
use Rattle.causes.specs.declared.Declined.{Declined}
use Rattle.promises.specs.Promises.{Opens}
use Rattle.history.specs.History.{History}

-- the sample of docs/REQUIREMENTS.md, 14.4: two posts, a query, a listing, a withdrawal and a query; and then the withdrawal is taken back
abbrev pub calls : List Call
calls = post (pos 1) (pos 3) (pos 0) ∷ post (pos 2) (pos 1) (pos 10) ∷ query (pos 5) ∷ listing 6 ∷ withdraw (pos 1) ∷ query (pos 5) ∷ take_back ∷ []

abbrev pub told : List Answer
told =
    live 1
    ∷ live 2
    ∷ found (pos 2) (pos 15) (pos 1)
    ∷ listed 2 (pos 1 ∷ pos 10 ∷ pos 2 ∷ pos 2 ∷ pos 0 ∷ pos 0 ∷ [])
    ∷ live 1
    ∷ found (pos 2) (pos 15) (pos 2)
    ∷ live 2
    ∷ []

pub record Witness : Type 0 where
  pub before : List ℤ
  pub opened : List ℤ
  pub after : List ℤ
  pub answer : Result (Unit {0}) Declined
  pub opens : Opens (pos 3) 0 before opened answer
  -- it meets neither cause 1 nor cause 2
  pub clear : Clear (open_trials (length before) 0 (pos 3))
  pub accepted : answer ≡ Ok tt
  pub history : History 3 0 opened calls told after
