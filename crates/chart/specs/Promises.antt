-- A book's chart marks (docs/REQUIREMENTS.md, 10.1), and what asking for one promises.
use Rattle.std.specs.Prelude.{ℕ, ◌≡◌, List, [], ◌∷◌, not, length, get_or, T, leb, ℤ, pos, nat_abs, Result, Ok, Err}
use Rattle.std.proofs.Math.Option.{Option, none, some}
use Rattle.offers.specs.Offers.{Offer, between, crossing_numerator, crossing_denominator}
use Rattle.plain.specs.Causes.{Cause, book_empty, no_such_mark, Trial, ◌when◌, declined, cause_number, FirstOf}
use Rattle.plain.specs.Book.{State, envelope}
use Rattle.marks.specs.Quotient.{double, quotient, divisible, Is, Quotient}
use Rattle.marks.specs.MarkTold.{Told, told as mark_told, open_end, crossing}
use Rattle.marks.specs.Crossings.{scaled_price}
use Rattle.dynamic.specs.OfferTree.{Held}
use Rattle.table.specs.Items.{Item}
use Rattle.form.specs.Form.{Book}
use Rattle.promises.specs.Promises.{part_of, no_book_trial}
use Rattle.causes.specs.declared.Declined.{Declined}
use Rattle.causes.specs.Numbers.{number_of}
use Rattle.marks.specs.declared.Mark.{Mark}

-- ---- the marks of a listing

-- the marks behind a piece: its crossing with the next, and so on to the last piece's rate
abbrev pub marks_behind : Offer → List Offer → List Told
marks_behind own [] = open_end own.rate ∷ []
marks_behind own (next ∷ es) = crossing (crossing_numerator own next) (crossing_denominator own next) (scaled_price own next) ∷ marks_behind next es

-- Mark 0 carries the first piece's rate, mark m the last's; mark i between is the crossing of pieces i and i + 1, counted from 1.
abbrev pub marks : List Offer → List Told
marks [] = []
marks (o ∷ es) = open_end o.rate ∷ marks_behind o es

-- ---- the plain book's answer

abbrev pub refusal : Cause → Told
refusal c = record { number = pos (cause_number c); values = [] }

abbrev pub mark_trials : List Offer → ℤ → List Trial
mark_trials os index = book_empty when leb (length os) 0 ∷ no_such_mark when not (between (pos 0) (pos (length (envelope os))) index) ∷ []

abbrev pub mark_of : List Offer → ℤ → Option Cause → Told
mark_of os index none = get_or (marks (envelope os)) (nat_abs index) (refusal no_such_mark)
mark_of os index (some c) = refusal c

abbrev pub plain_mark : List Offer → ℤ → Told
plain_mark os index = mark_of os index (declined (mark_trials os index))

-- ---- how exact it is

-- A piece's rate is exact as a double.
abbrev pub ExactEnd : Offer → Type 0
ExactEnd own = Is (double own.rate) own.rate (pos 0)

-- The numbers of a piece's crossing with the next are exact as doubles, and each quotient is rounded once: at most half a unit off.
pub record ExactCrossing (own next : Offer) : Type 0 where
  pub load_exact : T (divisible (crossing_numerator own next) (crossing_denominator own next))
  pub load : Quotient (crossing_numerator own next) (crossing_denominator own next) (quotient (crossing_numerator own next) (crossing_denominator own next))
  pub price_exact : T (divisible (scaled_price own next) (crossing_denominator own next))
  pub price : Quotient (scaled_price own next) (crossing_denominator own next) (quotient (scaled_price own next) (crossing_denominator own next))

-- So it is of every piece of a listing, and of every two neighbours: the very numbers of its marks.
abbrev pub Exact : List Offer → Type 0
Exact [] = Unit {0}
Exact (own ∷ []) = ExactEnd own
Exact (own ∷ next ∷ es) = ExactEnd own × ExactCrossing own next × Exact (next ∷ es)

-- ---- on a lent table

-- an answer in the requirements' number and values (16.5): a mark's own, or the number of the cause alone
abbrev pub told : Result Mark Declined → Told
told (Ok m) = mark_told m
told (Err c) = record { number = number_of c; values = [] }

pub record Marks (start : ℕ) (t : List ℤ) (index : ℤ) (r : Result Mark Declined) : Type 0 where
  pub declined : (z : Cause) → FirstOf (no_book_trial t start ∷ []) z → told r ≡ refusal z
  pub answers : (s : State) (held : Option (Held Item)) → Book (part_of t start) s held → told r ≡ plain_mark s.offers index
  pub rounded : (s : State) (held : Option (Held Item)) → Book (part_of t start) s held → Exact (envelope s.offers)
