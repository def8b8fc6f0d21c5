-- When a call is declined (docs/REQUIREMENTS.md, 13). A call has a list of trials, in the order in which they are made; the first that applies decides.
-- A later request renumbers a cause in `causeNumber`, or puts a trial into one call's list, and leaves the other calls alone.
use Rattle.std.specs.Prelude.{ℕ, List, [], ◌∷◌, Bool, not, cond, T}
use Rattle.std.proofs.Math.Option.{Option, none, some}

pub data Cause : Type 0 where
  -- open
  capacity_out_of_range table_too_short : Cause
  -- any other call: at `start` there is no book
  no_book : Cause
  -- an argument out of its range
  number_out_of_range rate_out_of_range base_out_of_range load_out_of_range price_out_of_range : Cause
  -- post
  number_live book_full : Cause
  -- withdraw
  number_not_live : Cause
  -- query, mark, meet
  book_empty : Cause
  -- listing, report
  output_too_short : Cause
  -- the counter program
  unreadable_line : Cause
  -- meet: some rate of the first book is not above some rate of the second
  rates_not_apart : Cause
  -- mark
  no_such_mark : Cause
  -- take-back: no update is remembered
  nothing_to_take_back : Cause

-- Number 6 told of a rate that was live; no cause has it any more.
abbrev pub cause_number : Cause → ℕ
cause_number capacity_out_of_range = 1
cause_number table_too_short = 2
cause_number no_book = 3
cause_number number_out_of_range = 4
cause_number rate_out_of_range = 14
cause_number base_out_of_range = 15
cause_number load_out_of_range = 16
cause_number price_out_of_range = 4
cause_number number_live = 5
cause_number book_full = 7
cause_number number_not_live = 8
cause_number book_empty = 9
cause_number output_too_short = 10
cause_number unreadable_line = 11
cause_number rates_not_apart = 12
cause_number no_such_mark = 13
cause_number nothing_to_take_back = 17

-- A cause, and whether it applies.
pub record Trial : Type 0 where
  pub cause : Cause
  pub applies : Bool

infix 80 ◌when◌
abbrev pub ◌when◌ : Cause → Bool → Trial
c when b = record { cause = c; applies = b }

-- The first cause that applies, if one does.
abbrev pub declined : List Trial → Option Cause
declined [] = none
declined (k ∷ ks) = cond k.applies (some k.cause) (declined ks)

-- No trial applies.
abbrev pub Clear : List Trial → Type 0
Clear [] = Unit {0}
Clear (k ∷ ks) = T (not k.applies) × Clear ks

-- A cause declines exactly when its trial applies and none before it does (`Trials`).
pub data FirstOf : List Trial → Cause → Type 0 where
  at_once : {k : Trial} {ks : List Trial} → T k.applies → FirstOf (k ∷ ks) k.cause
  further : {k : Trial} {ks : List Trial} {c : Cause} → T (not k.applies) → FirstOf ks c → FirstOf (k ∷ ks) c
