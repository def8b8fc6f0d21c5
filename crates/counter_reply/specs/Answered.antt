-- What an answer prints (docs/REQUIREMENTS.md, 14.3): one line, and before it a line for each piece of a listing.
use Rattle.std.specs.Prelude.{◌≡◌, List, [], ◌∷◌, ◌++◌, ℕ, length, drop, ℤ, pos}
use Rattle.plain.specs.Book.{Answer, refused, live, found, listed, reported}
use Rattle.counter_print.specs.Texts.{answer_line}

-- a piece's line: its offer, and its crossing with the next
unfoldable pub piece_lines : List ℤ → List ℕ
piece_lines (number ∷ numerator ∷ denominator ∷ ws) = answer_line 69 (pos 0) number numerator denominator ++ piece_lines ws
piece_lines (number ∷ numerator ∷ []) = []
piece_lines (number ∷ []) = []
piece_lines [] = []

-- What an answer prints: letter, refusal or 0, offer, value, second value. A post and a withdrawal show the number that they name, a query its second
-- offer in the last field. A report has no line.
abbrev pub answered : (letter : ℕ) (number : ℤ) → Answer → List ℕ
answered letter number (refused n) = answer_line letter (pos n) (pos 0) (pos 0) (pos 0)
answered letter number (live n) = answer_line letter (pos 0) number (pos n) (pos 0)
answered letter number (found offer price second) = answer_line letter (pos 0) offer price second
answered letter number (listed m words) = piece_lines words ++ answer_line letter (pos 0) (pos 0) (pos m) (pos 0)
answered letter number (reported m words) = []

-- A text stands in front, and the bytes behind it stay.
pub record Prints (text before after : List ℕ) (n : ℕ) : Type 0 where
  pub whole : after ≡ text ++ drop (length text) before
  pub count : n ≡ length text
