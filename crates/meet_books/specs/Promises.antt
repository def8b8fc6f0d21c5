-- What the meeting of two books promises. Both tables are only read, and they may be one table.
-- On words of any content cause 3 holds as tabled. Where both parts stand for offers (`Book`), the call is declined by the first trial
-- that applies, and else it answers where the machine ends on the two root envelopes.
use Rattle.std.specs.Prelude.{◌≡◌, not, ◌||◌, List, [], ◌∷◌, ◌++◌, map, ℕ, length, leb, ℤ, pos, Result, Ok, Err}
use Rattle.std.proofs.Math.Option.{Option, some}
use Rattle.std.specs.Int.Signed.{lt_z}
use Rattle.lists.specs.Tests.{any}
use Rattle.offers.specs.Offers.{Offer}
use Rattle.plain.specs.Causes.{Cause, no_book, book_empty, rates_not_apart, Trial, ◌when◌, cause_number, FirstOf, Clear}
use Rattle.plain.specs.Book.{State, no_book_at, envelope}
use Rattle.trees.specs.Tree.{Tree, height}
use Rattle.meeting.specs.Machine.{meet}
use Rattle.dynamic.specs.OfferTree.{Held}
use Rattle.dynamic.specs.Valid.{book_lines}
use Rattle.dynamic.specs.SearchEnd.{Bridged}
use Rattle.table.specs.Fields.{capacity_word}
use Rattle.table.specs.Words.{word}
use Rattle.table.specs.Items.{Item, offer_of}
use Rattle.pieces.specs.Pieces.{items}
use Rattle.form.specs.Form.{Book, number_of}
use Rattle.promises.specs.Promises.{part_of, root_part}
use Rattle.causes.specs.declared.Declined.{Declined}
use Rattle.causes.specs.Numbers.{number_of as cause_told}
use Rattle.meet_books.specs.declared.Meeting.{Meeting}

-- ---- when a meeting is declined

-- on words of any content
abbrev pub no_book_trials : (t : List ℤ) (start : ℕ) (t' : List ℤ) (start' : ℕ) → List Trial
no_book_trials t start t' start' =
    no_book when (no_book_at (length t) start (word (part_of t start) capacity_word) || no_book_at (length t') start' (word (part_of t' start') capacity_word)) ∷ []

-- on two books, of the offers live in each: a book is empty, or some rate of the first is not above some rate of the second
abbrev pub meet_trials : (first second : List Offer) → List Trial
meet_trials first second =
    book_empty when (leb (length first) 0 || leb (length second) 0)
    ∷ rates_not_apart when any (λ a. any (λ b. not (lt_z b.rate a.rate)) second) first
    ∷ []

-- ---- the answer in the requirements' number and values (9, 16.5)

pub data MeetAnswer : Type 0 where
  -- a declined call's number
  refused : ℤ → MeetAnswer
  -- u's and v's offers, steps, hl and hr
  met : (u v steps hl hr : ℤ) → MeetAnswer

abbrev pub meet_answer : Result Meeting Declined → MeetAnswer
meet_answer (Ok m) = met m.u m.v m.steps m.hl m.hr
meet_answer (Err c) = refused (cause_told c)

-- ---- the promise

-- The machine ends, within 3 × (hl + hr) + 1 steps, at u and v of `bridged`; they, its steps and the heights are the answer. The left
-- pieces up to u and the right ones from v are the envelope of both books: of the leaves of their trees (`bridged`) and of all live offers (`plainly`).
pub record Found (s s' : State) (held held' : Option (Held Item)) (r : Result Meeting Declined) : Type 0 where
  pub left : Tree Item
  pub right : Tree Item
  pub left_root : root_part held ≡ some left
  pub right_root : root_part held' ≡ some right
  pub bridged : Bridged items (book_lines held) (book_lines held') left right
  pub answer : meet_answer r ≡ met (number_of bridged.u) (number_of bridged.v) (pos (meet items left right).steps) (pos (height left)) (pos (height right))
  pub plainly : envelope (s.offers ++ s'.offers) ≡ map offer_of (bridged.up_to ++ bridged.u ∷ bridged.v ∷ bridged.from)

-- on two books
pub record Answers (s s' : State) (held held' : Option (Held Item)) (r : Result Meeting Declined) : Type 0 where
  pub declined : (z : Cause) → FirstOf (meet_trials s.offers s'.offers) z → meet_answer r ≡ refused (pos (cause_number z))
  pub accepted : Clear (meet_trials s.offers s'.offers) → Found s s' held held' r

pub record MeetsBooks (t : List ℤ) (start : ℕ) (t' : List ℤ) (start' : ℕ) (r : Result Meeting Declined) : Type 0 where
  pub declined : (z : Cause) → FirstOf (no_book_trials t start t' start') z → meet_answer r ≡ refused (pos (cause_number z))
  pub answers : (s s' : State) (held held' : Option (Held Item)) → Book (part_of t start) s held → Book (part_of t' start') s' held' → Answers s s' held held' r
