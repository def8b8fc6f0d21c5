-- The code's reading of a call is the encoding's.
use Rattle.std.specs.Prelude.{◌≡◌, refl, Option as Maybe, Some, None, true, false, List, [], ◌∷◌, ℕ, ◌-◌, ◌≤◌, ◌<◌, length, drop, get_or, ℤ, pos, leb}
use Rattle.std.proofs.Common.{arith}
use Rattle.std.proofs.Math.Option.{Option, none, some}
use Rattle.integers.specs.Parts.{equal_eq}
use Rattle.plain.specs.Book.{Call, post, withdraw, query, listing, take_back, report}
use Rattle.replay_words.specs.declared.Call.{Call as Encoded}
use Rattle.replay_words.specs.declared.Call.TheVariants.{Post, Withdraw, Query, Listing, TakeBack, Report}
use Rattle.replay_words.specs.Encoding.{call_of, next_call, stretch, fitting, first_run, runnable}
use Rattle.lists.specs.Bools.{passed}
use Rattle.integers.specs.Equal.{equal}

-- the plain book's call
abbrev pub meant : Encoded → Call
meant (Post n r b) = post n r b
meant (Withdraw n) = withdraw n
meant (Query q) = query q
meant (Listing room) = listing room
meant TakeBack = take_back
meant (Report q p room) = report q p room

-- the call that was read
abbrev pub asked : Maybe Encoded → Option Call
asked (Some k) = some (meant k)
asked None = none

-- the words are equal where the test says so
pub same_is : (a b : ℤ) → equal a b ≡ true → a ≡ b
same_is a b e = equal_eq a b (passed e)

-- ---- the next call

pub four : {k : Option Call} (ws : List ℤ) → 4 ≤ length ws → k ≡ call_of (get_or ws 0 (pos 0)) (get_or ws 1 (pos 0)) (get_or ws 2 (pos 0)) (get_or ws 3 (pos 0)) →
    k ≡ next_call ws
four [] h e = absurd (omega arith)
four (a ∷ []) h e = absurd (omega arith)
four (a ∷ b ∷ []) h e = absurd (omega arith)
four (a ∷ b ∷ c ∷ []) h e = absurd (omega arith)
four (a ∷ b ∷ c ∷ d ∷ ws) h e = e

pub too_few : (ws : List ℤ) → length ws < 4 → none ≡ next_call ws
too_few [] h = refl
too_few (a ∷ []) h = refl
too_few (a ∷ b ∷ []) h = refl
too_few (a ∷ b ∷ c ∷ []) h = refl
too_few (a ∷ b ∷ c ∷ d ∷ ws) h = absurd (omega arith)

-- ---- which calls are run

pub runnable_none : (ws : List ℤ) (room : ℕ) → fitting (next_call ws) room ≡ false → runnable ws room ≡ []
unfolding runnable
runnable_none [] room e = refl
runnable_none (a ∷ []) room e = refl
runnable_none (a ∷ b ∷ []) room e = refl
runnable_none (a ∷ b ∷ c ∷ []) room e = refl
runnable_none (a ∷ b ∷ c ∷ d ∷ ws) room e = go (call_of a b c d) e
  where
    go : (k : Option Call) → fitting k room ≡ false → first_run k room (runnable ws) ≡ []
    go none q = refl
    go (some k) q = rw q

pub runnable_next : (ws : List ℤ) (room : ℕ) {k : Call} → next_call ws ≡ some k → leb (stretch k) room ≡ true →
    runnable ws room ≡ k ∷ runnable (drop 4 ws) (room - stretch k)
unfolding runnable
runnable_next [] room e f = cc
runnable_next (a ∷ []) room e f = cc
runnable_next (a ∷ b ∷ []) room e f = cc
runnable_next (a ∷ b ∷ c ∷ []) room e f = cc
runnable_next (a ∷ b ∷ c ∷ d ∷ ws) room e f = rw (e, f)

-- four words a call
pub next_words : (ws : List ℤ) {k : Call} → next_call ws ≡ some k → 4 ≤ length ws
next_words [] e = let z : ◌≡◌ {A = ℕ} 0 1 = cc in absurd (omega arith)
next_words (a ∷ []) e = let z : ◌≡◌ {A = ℕ} 0 1 = cc in absurd (omega arith)
next_words (a ∷ b ∷ []) e = let z : ◌≡◌ {A = ℕ} 0 1 = cc in absurd (omega arith)
next_words (a ∷ b ∷ c ∷ []) e = let z : ◌≡◌ {A = ℕ} 0 1 = cc in absurd (omega arith)
next_words (a ∷ b ∷ c ∷ d ∷ ws) e = omega arith
