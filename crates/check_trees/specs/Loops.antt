-- What is looked for along a stretch of the scratch array, and a stretch moved down.
use Rattle.std.specs.Prelude.{◌≡◌, ◌≢◌, Option, MatchOption, List, ℕ, ◌+◌, ◌≤◌, ◌<◌, T, length, get_or}
use Rattle.std.specs.Int.Signed.{lt_z}
use Rattle.offers.specs.Offers.{offer_in_range}
use Rattle.table.specs.Words.{Words}
use Rattle.table.specs.Layout.{cell}
use Rattle.table.specs.Threads.{Next}
use Rattle.check_trees.specs.Laid.{item_at}
use Rattle.check_trees.specs.Deciding.{Every}

-- a field falls from one entry's slot to the next one's
pub record FallsHere (w : Words) (f : ℕ) (xs : List ℕ) (k : ℕ) : Type 0 where
  pub falls : T (lt_z (cell w f (get_or xs (k + 1) 0)) (cell w f (get_or xs k 0)))

-- the slot's offer is in range
pub record RangedHere (w : Words) (xs : List ℕ) (k : ℕ) : Type 0 where
  pub ranged : T (offer_in_range (item_at w (get_or xs k 0)).offer)

-- the slot is threaded to the next entry's
pub record NextHere (w : Words) (xs : List ℕ) (k : ℕ) : Type 0 where
  pub next : Next w (item_at w (get_or xs k 0)) (item_at w (get_or xs (k + 1) 0))

-- ---- the first place of a number

-- place i is the first of s from `from` up to `to`
pub record FirstOf (xs : List ℕ) (from to s i : ℕ) : Type 0 where
  pub low : from ≤ i
  pub high : i < to
  pub found : get_or xs i 0 ≡ s
  pub first : Every (λ k. get_or xs k 0 ≢ s) from i

-- .. or s has none there
abbrev pub PlaceOf : List ℕ → ℕ → ℕ → ℕ → Option ℕ → Type 0
PlaceOf xs from to s r = MatchOption r (Every (λ k. get_or xs k 0 ≢ s) from to) (FirstOf xs from to s)

-- ---- a stretch moved down

-- n entries from place `from` on stand at place `to` on; entries before that are as they were
pub record Moved (xs xs' : List ℕ) (to from n : ℕ) : Type 0 where
  pub long : length xs' ≡ length xs
  pub front : (i : ℕ) → i < to → get_or xs' i 0 ≡ get_or xs i 0
  pub moved : (j : ℕ) → j < n → get_or xs' (to + j) 0 ≡ get_or xs (from + j) 0
