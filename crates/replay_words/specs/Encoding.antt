-- A list of calls as words: four a call. And the words that each answer is written to.
--     1 number rate base   post           4 room 0 0          listing
--     2 number 0 0         withdraw       5 0 0 0             take back
--     3 load 0 0           query          6 load price room   report
use Rattle.std.specs.Prelude.{◌≡◌, List, [], ◌∷◌, ◌++◌, Bool, false, ◌&&◌, cond, ℕ, zero, suc, ◌+◌, ◌*◌, ◌-◌, ◌≤◌, length, take, drop, get_or, ℤ, pos, negsuc, leb, Result}
use Rattle.std.proofs.Math.Option.{Option, none, some}
use Rattle.integers.specs.Equal.{equal}
use Rattle.plain.specs.Book.{Call, post, withdraw, query, listing, take_back, report, Answer, refused, live, found, listed, reported}
use Rattle.promises.specs.declared.Update.{Update}
use Rattle.promises.specs.declared.Found.{Found}
use Rattle.causes.specs.declared.Declined.{Declined}
use Rattle.causes.specs.Numbers.{number_of}
use Rattle.promises.specs.Promises.{counted, update_told, found_told, count_told, written_words}

-- ---- calls

abbrev pub encode : Call → List ℤ
encode (post n r b) = pos 1 ∷ n ∷ r ∷ b ∷ []
encode (withdraw n) = pos 2 ∷ n ∷ pos 0 ∷ pos 0 ∷ []
encode (query q) = pos 3 ∷ q ∷ pos 0 ∷ pos 0 ∷ []
encode (listing room) = pos 4 ∷ pos room ∷ pos 0 ∷ pos 0 ∷ []
encode take_back = pos 5 ∷ pos 0 ∷ pos 0 ∷ pos 0 ∷ []
encode (report q p room) = pos 6 ∷ q ∷ p ∷ pos room ∷ []

abbrev pub encoded : List Call → List ℤ
encoded [] = []
encoded (k ∷ ks) = encode k ++ encoded ks

-- a room is no number below 0
abbrev pub with_room : (ℕ → Call) → ℤ → Option Call
with_room call (pos room) = some (call room)
with_room call (negsuc n) = none

abbrev pub listing_of : ℤ → Option Call
listing_of room = with_room listing room

abbrev pub report_of : ℤ → ℤ → ℤ → Option Call
report_of q p room = with_room (report q p) room

-- a call with one argument at most
abbrev pub short_call : ℤ → ℤ → Option Call
short_call code a =
    cond (equal code (pos 5)) (cond (equal a (pos 0)) (some take_back) none)
    (cond (equal code (pos 2)) (some (withdraw a))
    (cond (equal code (pos 3)) (some (query a))
    (cond (equal code (pos 4)) (listing_of a) none)))

-- the call that four words encode
abbrev pub call_of : (code a b c : ℤ) → Option Call
call_of code a b c =
    cond (equal code (pos 1)) (some (post a b c))
    (cond (equal code (pos 6)) (report_of a b c)
    (cond (equal b (pos 0) && equal c (pos 0)) (short_call code a) none))

-- the first call, where there are four words and they encode one
abbrev pub next_call : List ℤ → Option Call
next_call [] = none
next_call (a ∷ []) = none
next_call (a ∷ b ∷ []) = none
next_call (a ∷ b ∷ c ∷ []) = none
next_call (a ∷ b ∷ c ∷ d ∷ ws) = call_of a b c d

-- ---- the words of an answer, told by the call alone

abbrev pub stretch : Call → ℕ
stretch (post n r b) = 5
stretch (withdraw n) = 5
stretch (query q) = 5
stretch (listing room) = 5 + room
stretch take_back = 5
stretch (report q p room) = 5 + room

abbrev pub stretches : List Call → ℕ
stretches [] = 0
stretches (k ∷ ks) = stretch k + stretches ks

-- whether there is a call, and `room` words are enough for its answer
abbrev pub fitting : Option Call → ℕ → Bool
fitting none room = false
fitting (some k) room = leb (stretch k) room

-- the calls that are run: up to the first that is unreadable or whose answer does not fit any more
abbrev pub first_run : Option Call → ℕ → (ℕ → List Call) → List Call
first_run none room rest = []
first_run (some k) room rest = cond (leb (stretch k) room) (k ∷ rest (room - stretch k)) []

unfoldable pub runnable : List ℤ → ℕ → List Call
runnable [] room = []
runnable (a ∷ []) room = []
runnable (a ∷ b ∷ []) room = []
runnable (a ∷ b ∷ c ∷ []) room = []
runnable (a ∷ b ∷ c ∷ d ∷ ws) room = first_run (call_of a b c d) room (runnable ws)

-- how far calls reach, in the words of the calls and in those of the answers, and that the next cannot be run
pub record Run (calls : List ℤ) (room : ℕ) (ks : List Call) : Type 0 where
  pub words : take (4 * length ks) calls ≡ encoded ks
  pub fits : stretches ks ≤ room
  pub ends : fitting (next_call (drop (4 * length ks) calls)) (room - stretches ks) ≡ false

-- ---- answers: a refusal's number, or 0 and four values

-- so many words: the values, and zeros behind them
abbrev pub padded : ℕ → List ℤ → List ℤ
padded zero values = []
padded (suc n) [] = pos 0 ∷ padded n []
padded (suc n) (value ∷ values) = value ∷ padded n values

abbrev pub refusal_words : Declined → List ℤ
refusal_words c = number_of c ∷ padded 4 []

abbrev pub update_words : Result Update Declined → List ℤ
update_words r = (update_told r).number ∷ padded 4 (update_told r).values

abbrev pub found_words : Result Found Declined → List ℤ
found_words r = (found_told r).number ∷ padded 4 (found_told r).values

-- a listing's or a report's: the words written follow
abbrev pub count_words : Result ℤ Declined → List ℤ
count_words r = (count_told r).number ∷ padded 4 (count_told r).values

-- ---- and read off again

-- an accepted call's answer, by its first three values and the words behind the five
abbrev pub accepted_answer : Call → ℤ → ℤ → ℤ → List ℤ → Answer
accepted_answer (post n r b) x y z out = counted live x
accepted_answer (withdraw n) x y z out = counted live x
accepted_answer (query q) x y z out = found x y z
accepted_answer take_back x y z out = counted live x
accepted_answer (listing room) x y z out = counted (λ m. listed m (take (3 * m) (take room out))) x
accepted_answer (report q p room) x y z out = counted (λ m. reported m (take (3 * m) (take room out))) x

abbrev pub answer_of : Call → ℤ → ℤ → ℤ → ℤ → List ℤ → Answer
answer_of k refusal x y z out = cond (equal refusal (pos 0)) (accepted_answer k x y z out) (counted refused refusal)

-- the answers in order
abbrev pub told : List Call → List ℤ → List Answer
told [] ws = []
told (k ∷ ks) ws =
    answer_of k (get_or ws 0 (pos 0)) (get_or ws 1 (pos 0)) (get_or ws 2 (pos 0)) (get_or ws 3 (pos 0)) (drop 5 ws) ∷ told ks (drop (stretch k) ws)

-- ---- words that no answer is written to

-- of one call's stretch: behind what a listing or a report writes, and all of the room of a refused one
abbrev pub spared : Call → Answer → List ℤ → List ℤ
spared (post n r b) a ws = []
spared (withdraw n) a ws = []
spared (query q) a ws = []
spared take_back a ws = []
spared (listing room) a ws = drop (written_words a) (take room (drop 5 ws))
spared (report q p room) a ws = drop (written_words a) (take room (drop 5 ws))

-- they keep their contents
abbrev pub Spares : List Call → List Answer → (ws ws' : List ℤ) → Type 0
Spares [] as' ws ws' = Unit {0}
Spares (k ∷ ks) [] ws ws' = Unit {0}
Spares (k ∷ ks) (a ∷ as') ws ws' = (spared k a ws' ≡ spared k a ws) × Spares ks as' (drop (stretch k) ws) (drop (stretch k) ws')
