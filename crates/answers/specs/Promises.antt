-- What each function for Rust and C promises: the promise of the call behind it (the Promises of promises, meet_books, chart and reading, `Vouches` of
-- vouchers), with the answer told as one number and as values over the first words of a lent output. `t` are the table's words before the
-- call and `t'` those after it; so for the words of an output.
use Rattle.std.specs.Prelude.{◌≡◌, Bool, cond, List, [], ◌∷◌, ◌++◌, ℕ, ◌≤◌, ◌<◌, ◌^◌, length, drop, ℤ, pos, neg_ℤ, nat_abs, Float, Result}
use Rattle.plain.specs.Book.{Call, post, withdraw, take_back}
use Rattle.table.specs.Words.{up_to}
use Rattle.causes.specs.declared.Declined.{Declined}
use Rattle.promises.specs.declared.Update.{Update}
use Rattle.promises.specs.declared.Found.{Found}
use Rattle.promises.specs.Promises.{opening_answer, update_told, found_told, count_told, Opens, Updates, Queries, Lists, Reports, Checks}
use Rattle.meet_books.specs.Promises.{MeetAnswer, refused, met, meet_answer, MeetsBooks}
use Rattle.chart.specs.Promises.{told as mark_told, Marks}
use Rattle.vouchers.specs.VoucherTold.{told as voucher_told, Vouches}
use Rattle.reading.specs.Promises.{Handed, Told as PieceTold, piece, ended, refused as piece_refused, told as piece_told, Starts, Moves, Hands}

-- ---- an answer as one number

-- a cause below 0
abbrev pub refusal : ℤ → ℤ
refusal cause = neg_ℤ (pos (nat_abs cause))

-- the answer where a lent output is too short
abbrev pub too_short : ℤ
too_short = neg_ℤ (pos 100)

-- an accepted call's first value, or a refusal's number below 0
abbrev pub first_or : ℤ → List ℤ → ℤ
first_or cause [] = refusal cause
first_or cause (first ∷ more) = first

abbrev pub opening_number : Result (Unit {0}) Declined → ℤ
opening_number r = refusal (opening_answer r)

abbrev pub update_number : Result Update Declined → ℤ
update_number r = first_or (update_told r).number (update_told r).values

abbrev pub found_number : Result Found Declined → ℤ
found_number r = first_or (found_told r).number (found_told r).values

-- a listing's, or a report's
abbrev pub count_number : Result ℤ Declined → ℤ
count_number r = first_or (count_told r).number (count_told r).values

abbrev pub meet_number : MeetAnswer → ℤ
meet_number (refused cause) = refusal cause
meet_number (met u v steps hl hr) = u

-- by what a mark tells: 0 for an open end, which has one value, and 1 for a crossing, which has two
abbrev pub mark_number : ℤ → List Float → ℤ
mark_number cause [] = refusal cause
mark_number cause (rate ∷ []) = pos 0
mark_number cause (load ∷ price ∷ values) = pos 1

-- the place that a reading goes on to
abbrev pub place_number : ℕ → PieceTold → ℤ
place_number next (piece number numerator denominator) = pos next
place_number next ended = pos next
place_number next (piece_refused cause) = refusal cause

-- ---- the values that go with it

-- behind the first
abbrev pub later_of : List ℤ → List ℤ
later_of [] = []
later_of (first ∷ more) = more

abbrev pub counts_of : Result Update Declined → List ℤ
counts_of r = later_of (update_told r).values

abbrev pub found_of : Result Found Declined → List ℤ
found_of r = later_of (found_told r).values

abbrev pub met_of : MeetAnswer → List ℤ
met_of (refused cause) = []
met_of (met u v steps hl hr) = v ∷ steps ∷ hl ∷ hr ∷ []

abbrev pub piece_of : PieceTold → List ℤ
piece_of (piece number numerator denominator) = number ∷ numerator ∷ denominator ∷ []
piece_of ended = []
piece_of (piece_refused cause) = []

-- values over the first words of an output; the later ones stay
abbrev pub over : {A : Type 0} → List A → List A → List A
over vs ws = vs ++ drop (length vs) ws

pub record Tells {A : Type 0} (n : ℤ) (values out out' : List A) (r : ℤ) : Type 0 where
  pub number : r ≡ n
  pub words : out' ≡ over values out

-- ---- a call that tells its answer

-- The call keeps its promise with some answer, which is told. Where the output has fewer words than `room`, and there alone, it is not made.
pub record Lent {A B : Type 0} (room : ℕ) (Keeps : B → Type 0) (number_of : B → ℤ) (values_of : B → List A)
    (out out' : List A) (r : ℤ) : Type 0 where
  pub short : length out < room → (r ≡ too_short) × (out' ≡ out)
  pub long : room ≤ length out → (b : B) × Keeps b × Tells (number_of b) (values_of b) out out' r

-- ---- the functions

pub record Opened (c : ℤ) (start : ℕ) (t t' : List ℤ) (r : ℤ) : Type 0 where
  pub opening : Result (Unit {0}) Declined
  pub opens : Opens c start t t' opening
  pub number : r ≡ opening_number opening

-- a post, a withdrawal or a take-back, which writes to the table: k, s and H go with its answer
pub record Updated (k : Call) (start : ℕ) (t t' counts counts' : List ℤ) (r : ℤ) : Type 0 where
  pub lent : Lent 3 (Updates k start t t') update_number counts_of counts counts' r
  pub still : length counts < 3 → t' ≡ t

abbrev pub Posted : (number rate base : ℤ) (start : ℕ) (t t' counts counts' : List ℤ) (r : ℤ) → Type 0
Posted number rate base start t t' counts counts' r = Updated (post number rate base) start t t' counts counts' r

abbrev pub Withdrawn : (number : ℤ) (start : ℕ) (t t' counts counts' : List ℤ) (r : ℤ) → Type 0
Withdrawn number start t t' counts counts' r = Updated (withdraw number) start t t' counts counts' r

abbrev pub TakenBack : (start : ℕ) (t t' counts counts' : List ℤ) (r : ℤ) → Type 0
TakenBack start t t' counts counts' r = Updated take_back start t t' counts counts' r

-- the price, the second offer's number and the probes go with it
abbrev pub Queried : (load : ℤ) (start : ℕ) (t found found' : List ℤ) (r : ℤ) → Type 0
Queried load start t found found' r = Lent 3 (Queries load start t) found_number found_of found found' r

pub record Listing (start : ℕ) (t out out' : List ℤ) (r : ℤ) : Type 0 where
  pub listed : Result ℤ Declined
  pub lists : Lists start t out out' listed
  pub number : r ≡ count_number listed

pub record Report (load price : ℤ) (start : ℕ) (t out out' : List ℤ) (r : ℤ) : Type 0 where
  pub reported : Result ℤ Declined
  pub reports : Reports load price start t out out' reported
  pub number : r ≡ count_number reported

pub record Checked (start : ℕ) (t : List ℤ) (r : ℤ) : Type 0 where
  pub passes : Bool
  pub checks : Checks start t passes
  pub number : r ≡ cond passes (pos 1) (pos 0)

-- v's offer, the steps and the two heights go with u's offer
abbrev pub MetBooks : (t : List ℤ) (start : ℕ) (t' : List ℤ) (start' : ℕ) (out out' : List ℤ) (r : ℤ) → Type 0
MetBooks t start t' start' out out' r =
    Lent 4 (MeetsBooks t start t' start') (λ m. meet_number (meet_answer m)) (λ m. met_of (meet_answer m)) out out' r

-- a mark's values go with it: an open end's rate, or a crossing's load and price
abbrev pub MarkAsked : (start : ℕ) (t : List ℤ) (index : ℤ) (mark mark' : List Float) (r : ℤ) → Type 0
MarkAsked start t index mark mark' r =
    Lent 2 (Marks start t index) (λ m. mark_number (mark_told m).number (mark_told m).values) (λ m. (mark_told m).values) mark mark' r

-- the units go with it
abbrev pub Vouchered : (price : ℤ) (units units' : List ℤ) (r : ℤ) → Type 0
Vouchered price units units' r =
    Lent 1 (Vouches price) (λ v. refusal (voucher_told v).number) (λ v. (voucher_told v).values) units units' r

-- ---- a reading, whose place goes from call to call as a word

-- a word as a place; one that is none is the end's
abbrev pub place_of : ℤ → ℕ
place_of word = up_to 4_294_967_295 word

-- the first place
pub record Begun (start : ℕ) (t : List ℤ) (r : ℤ) : Type 0 where
  pub place : ℕ
  pub small : place < 2 ^ 32
  pub handed : Handed
  pub starts : Starts start t place
  pub hands : Hands start t place handed
  pub number : r ≡ place_number place (piece_told handed)

-- one step of a reading at a place
pub record Step : Type 0 where
  pub handed : Handed
  pub next : ℕ

pub record Steps (start : ℕ) (t : List ℤ) (place : ℕ) (s : Step) : Type 0 where
  pub small : s.next < 2 ^ 32
  pub hands : Hands start t place s.handed
  pub moves : Moves start t place s.next

-- the piece's three words go with the place of the next
abbrev pub Pieced : (start : ℕ) (t : List ℤ) (place : ℤ) (out out' : List ℤ) (r : ℤ) → Type 0
Pieced start t place out out' r =
    Lent 3 (Steps start t (place_of place)) (λ s. place_number s.next (piece_told s.handed)) (λ s. piece_of (piece_told s.handed)) out out' r
