-- What an answer's lines are written as, where each number fits its column.
use Rattle.std.specs.Prelude.{◌≡◌, List, [], ◌∷◌, ◌++◌, ℕ, ◌≤◌, length, drop, ℤ, pos, negsuc}
use Rattle.std.proofs.Common.{sym, ◌∙◌, ap, arith, length-append, take-append-drop}
use Rattle.plain.specs.Book.{Answer, refused, live, found, listed, reported}
use Rattle.counter_print.specs.Texts.{decimal, numeral, digits, digits_within, FitsIn, answer_line}
use Rattle.counter_print.specs.Justified.{justified_width}
use Rattle.counter_print.specs.Printed.{Answers}
use Rattle.promises.specs.Promises.{counted}
use Rattle.counter_reply.specs.Answered.{answered, Prints}

-- ---- what fits its columns

-- three words a piece
unfoldable pub PiecesFit : List ℤ → Type 0
PiecesFit (number ∷ numerator ∷ denominator ∷ ws) = FitsIn 6 number × FitsIn 14 numerator × FitsIn 14 denominator × PiecesFit ws
PiecesFit (number ∷ numerator ∷ []) = Unit {0}
PiecesFit (number ∷ []) = Unit {0}
PiecesFit [] = Unit {0}

-- `refused 0` is no answer of the plain book, and no line asks for a report: nothing is printed for them
abbrev pub Fits : ℤ → Answer → Type 0
Fits number (refused n) = (1 ≤ n) × FitsIn 3 (pos n)
Fits number (live n) = FitsIn 6 number × FitsIn 14 (pos n)
Fits number (found offer price second) = FitsIn 6 offer × FitsIn 14 price × FitsIn 14 second
Fits number (listed m words) = PiecesFit words × FitsIn 14 (pos m) × (m ≤ 64)
Fits number (reported m words) = ⊥

pub zero_fits : (k : ℕ) → 1 ≤ k → FitsIn k (pos 0)
unfolding decimal numeral digits digits_within
zero_fits k h = h

-- What is promised of writing an answer.
pub record Replies (letter : ℕ) (number : ℤ) (a : Answer) (before after : List ℕ) (n : ℕ) : Type 0 where
  pub within : n ≤ length before
  pub prints : Fits number a → Prints (answered letter number a) before after n

-- ---- one line

pub answer_length : (letter : ℕ) (refusal offer value second : ℤ) → FitsIn 3 refusal → FitsIn 6 offer → FitsIn 14 value → FitsIn 14 second →
    length (answer_line letter refusal offer value second) ≡ 39
unfolding answer_line
answer_length letter refusal offer value second f₁ f₂ f₃ f₄ =
    simp length-append
    (omega (
      arith,
      justified_width 3 (decimal refusal) f₁,
      justified_width 6 (decimal offer) f₂,
      justified_width 14 (decimal value) f₃,
      justified_width 14 (decimal second) f₄,
    ))

pub one_line : {letter : ℕ} {refusal offer value second : ℤ} {before after : List ℕ} → Answers letter refusal offer value second before after →
    FitsIn 3 refusal → FitsIn 6 offer → FitsIn 14 value → FitsIn 14 second
    → Prints (answer_line letter refusal offer value second) before after 39
one_line {letter} {refusal} {offer} {value} {second} {before} {after} a f₁ f₂ f₃ f₄ =
    let l = answer_length letter refusal offer value second f₁ f₂ f₃ f₄ in
    record {
      whole = sym (take-append-drop 39 after) ∙ (λ i. a.text f₁ f₂ f₃ f₄ i ++ a.rest i) ∙ ap
          (λ (n : ℕ). answer_line letter refusal offer value second ++ drop n before) (sym l);
      count = sym l;
    }

-- ---- the lines of the answers

module _ {letter : ℕ} {number : ℤ} {before after : List ℕ} (long : 39 ≤ length before) where
  pub refused_line : (z : ℤ) → Answers letter z (pos 0) (pos 0) (pos 0) before after → Replies letter number (counted refused z) before after 39
  refused_line (pos n) a = record {
    within = long;
    prints =
        λ f. one_line a f.1 (zero_fits 6 (omega arith)) (zero_fits 14 (omega arith)) (zero_fits 14 (omega arith));
  }
  refused_line (negsuc n) a = record { within = long; prints = λ f. absurd (omega (arith, f.0)) }

  pub live_line : (z : ℤ) → Answers letter (pos 0) number z (pos 0) before after → Replies letter number (counted live z) before after 39
  live_line (pos n) a = record { within = long; prints = λ f. one_line a (zero_fits 3 (omega arith)) f.0 f.1 (zero_fits 14 (omega arith)) }
  live_line (negsuc n) a = record { within = long; prints = λ f. absurd (omega (arith, f.0)) }

  pub found_line : (offer price second : ℤ) → Answers letter (pos 0) offer price second before after →
      Replies letter number (found offer price second) before after 39
  found_line offer price second a = record { within = long; prints = λ f. one_line a (zero_fits 3 (omega arith)) f.0 f.1 f.2 }
