-- A reading of a book's pieces (docs/REQUIREMENTS.md, 12): what it hands out at its n-th step, and what moves it on.
use Rattle.std.specs.Prelude.{ℕ, ◌+◌, ◌*◌, ◌≤◌, ◌≡◌, List, [], ◌∷◌, length, take, drop, ℤ, pos, Result, Ok, Err, Option as Maybe, Some, None}
use Rattle.std.proofs.Math.Option.{Option, none, some}
use Rattle.offers.specs.Offers.{Offer}
use Rattle.plain.specs.Causes.{Cause, cause_number, FirstOf}
use Rattle.plain.specs.Book.{State, envelope, piece_words}
use Rattle.trees.specs.Operations.{part_leaves}
use Rattle.dynamic.specs.OfferTree.{Held}
use Rattle.table.specs.Words.{Words}
use Rattle.table.specs.Items.{Item}
use Rattle.form.specs.Form.{Book}
use Rattle.listing.specs.PieceCounts.{Passed}
use Rattle.promises.specs.Promises.{part_of, no_book_trial}
use Rattle.causes.specs.declared.Declined.{Declined}
use Rattle.causes.specs.Numbers.{number_of}
use Rattle.reading.specs.declared.Piece.{Piece}

-- ---- answers in the requirements' numbers and words (16.5)

-- what a reading hands out: a piece, none at the end, or a refusal
abbrev pub Handed : Type 0
Handed = Result (Maybe Piece) Declined

-- a piece's three words, the end, or the number of the cause for declining
pub data Told : Type 0 where
  piece : (number numerator denominator : ℤ) → Told
  ended : Told
  refused : ℤ → Told

abbrev pub told : Handed → Told
told (Ok (Some p)) = piece p.number p.numerator p.denominator
told (Ok None) = ended
told (Err c) = refused (number_of c)

abbrev pub refusal : Cause → Told
refusal c = refused (pos (cause_number c))

-- three words are a piece, and none the end
abbrev pub piece_of : List ℤ → Told
piece_of [] = ended
piece_of (number ∷ []) = ended
piece_of (number ∷ numerator ∷ []) = ended
piece_of (number ∷ numerator ∷ denominator ∷ ws) = piece number numerator denominator

-- The n-th three words of the listing, counted from 0; past the last piece there are none, which is the end.
abbrev pub listed_at : List Offer → ℕ → Told
listed_at os n = piece_of (take 3 (drop (3 * n) (piece_words (envelope os))))

-- ---- places

-- the pieces that a part keeps at the root
abbrev pub root_pieces : Option (Held Item) → List Item
root_pieces none = []
root_pieces (some h) = part_leaves h.whole

-- p is the slot of the n-th of these pieces, counted from 0, or 0 past the last
pub data PlaceOf (xs : List Item) (n p : ℕ) : Type 0 where
  at_piece : Passed p (n + 1) xs → PlaceOf xs n p
  past_last : length xs ≤ n → p ≡ 0 → PlaceOf xs n p

-- a reading at place p has handed out n pieces, or has come to the end
pub record Before (w : Words) (n p : ℕ) : Type 0 where
  pub stands : (s : State) (held : Option (Held Item)) → Book w s held → PlaceOf (root_pieces held) n p

-- ---- the promises

-- where there is no book the place is 0
abbrev pub Nowhere : ℕ → List ℤ → ℕ → Type 0
Nowhere start t p = (z : Cause) → FirstOf (no_book_trial t start ∷ []) z → p ≡ 0

-- where a reading begins
pub record Starts (start : ℕ) (t : List ℤ) (r : ℕ) : Type 0 where
  pub nowhere : Nowhere start t r
  pub before : Before (part_of t start) 0 r

-- one step on
pub record Moves (start : ℕ) (t : List ℤ) (place r : ℕ) : Type 0 where
  pub nowhere : Nowhere start t r
  pub on : (n : ℕ) → Before (part_of t start) n place → Before (part_of t start) (n + 1) r

-- what is handed out at a place
pub record Hands (start : ℕ) (t : List ℤ) (place : ℕ) (r : Handed) : Type 0 where
  pub declined : (z : Cause) → FirstOf (no_book_trial t start ∷ []) z → told r ≡ refusal z
  pub answers : (n : ℕ) → Before (part_of t start) n place → (s : State) (held : Option (Held Item)) → Book (part_of t start) s held →
      told r ≡ listed_at s.offers n
