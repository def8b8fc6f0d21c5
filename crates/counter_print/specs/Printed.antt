-- What is promised of printing, whatever the way. What a column gets that is too narrow for its number is free; where one number of an
-- answer's line does not fit, the whole line is free.
use Rattle.std.specs.Prelude.{ℕ, ◌+◌, ◌≤◌, ◌≡◌, List, length, take, drop, ℤ}
use Rattle.std.proofs.Common.{arith, SFits}
use Rattle.std.specs.Int.{w64}
use Rattle.counter_print.specs.Texts.{decimal, justified, FitsIn, answer_line}
use Rattle.counter_print.specs.Decimals.{fits_word}

-- A number fills a whole column.
pub record Justifies (value : ℤ) (before after : List ℕ) : Type 0 where
  pub text : FitsIn (length before) value → after ≡ justified (length before) (decimal value)

-- So any signed word, −2^63 among them, in a column of 20 or more.
pub word_justified : (value : ℤ) (before after : List ℕ) → SFits w64 value → 20 ≤ length before → Justifies value before after
    → after ≡ justified (length before) (decimal value)
word_justified value before after f h j = j.text (omega (arith, h, fits_word value f))

-- A number fills the columns from `from` on, and the other bytes stay.
pub record Puts (from width : ℕ) (value : ℤ) (before after : List ℕ) : Type 0 where
  pub text : FitsIn width value → take width (drop from after) ≡ justified width (decimal value)
  pub left : take from after ≡ take from before
  pub right : drop (from + width) after ≡ drop (from + width) before

-- A line fills the first 39 bytes, and the other bytes stay.
pub record Answers (letter : ℕ) (refusal offer value second : ℤ) (before after : List ℕ) : Type 0 where
  pub text : FitsIn 3 refusal → FitsIn 6 offer → FitsIn 14 value → FitsIn 14 second → take 39 after ≡ answer_line letter refusal offer value second
  pub rest : drop 39 after ≡ drop 39 before
