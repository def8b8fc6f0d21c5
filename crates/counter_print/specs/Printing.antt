-- How a number is printed: spaces and the minus before its digits, which `Places` tells. `Printed` says what is promised of it.
use Rattle.std.specs.Prelude.{ℕ, zero, suc, ◌+◌, ◌-◌, ◌^◌, ◌≤◌, ◌<◌, ◌≡◌, refl, Bool, true, false, List, [], ◌∷◌, ◌++◌, take, drop, set, replicate, ℤ, pos, negsuc, nat_abs}
use Rattle.std.proofs.Common.{ap, sym, ◌∙◌, append-nil, arith, length-append, length-drop, drop_of_length-le, take-add, take_all, take_at, drop_at, take-suc-set, drop-drop, length-take-le, drop-set-lt}
use Rattle.std.proofs.Math.Nat.{sub-zero}
use Rattle.std.proofs.Math.Numerals.{unary_clauses}
use Rattle.std.proofs.Math.ListN.{length}
use Rattle.std.proofs.lemmas.List.{length-replicate}
use Rattle.std.specs.Int.Signed.{lt_z}
use Rattle.std.specs.Int.{w64}
use mir.Val.{Fits, SFits, bool_byte}
use Rattle.counter_print.specs.Texts.{space, minus, decimal, justified, FitsIn, newline, answer_line}
use Rattle.counter_print.specs.Printed.{Justifies, Puts, Answers}
use Rattle.counter_print.specs.Decimals.{sign, decimal_parts}
use Rattle.counter_print.specs.Powers.{most_digits}
use Rattle.counter_print.specs.Places.{places, places_length, CountsDigits, counts_text}
use Rattle.counter_print.specs.Sections.{between, parts_left, parts_middle, parts_right}
use Rattle.counter_print.specs.Justified.{justified_append}

-- ---- what stands before the digits

minus_last : (k : ℕ) → set (replicate (suc k) space) k minus ≡ replicate k space ++ minus ∷ []
minus_last zero = refl
minus_last (suc k) = ap (λ (t : List ℕ). space ∷ t) (minus_last k)

module _ (width : ℕ) (column : List ℕ) (blank : column ≡ replicate width space) where
  pub signed_blank : column ≡ justified width []
  unfolding justified
  signed_blank = blank ∙ rw (append-nil, sub-zero)

  pub signed_minus : 0 < width → set column (length column - 1) minus ≡ justified width (minus ∷ [])
  unfolding justified
  signed_minus some = rw (blank, length-replicate) (go width some)
    where
      go : (n : ℕ) → 0 < n → set (replicate n space) (n - 1) minus ≡ replicate (n - 1) space ++ minus ∷ []
      go zero h = absurd (omega arith)
      go (suc k) h = simp unary_clauses (minus_last k)

-- ---- a whole number

-- A signed word has no more digits than the table has powers.
pub word_digits : (z : ℤ) → SFits w64 z → nat_abs z < 10 ^ most_digits
word_digits (pos n) f = omega arith
word_digits (negsuc n) f = omega arith

pub count_fits : (negative : Bool) (count : ℕ) → count ≤ most_digits → Fits w64 (count + bool_byte negative)
count_fits true count h = omega arith
count_fits false count h = omega arith

sign_length : (negative : Bool) → length (sign negative) ≡ bool_byte negative
sign_length true = refl
sign_length false = refl

-- The sign fits before the digits where the text fits.
pub sign_fits : (negative : Bool) (count : ℕ) (before : List ℕ) → count + bool_byte negative ≤ length before
    → length (sign negative) ≤ length (take (length before - count) before)
sign_fits negative count before h = rw (length-take-le (length before - count) before (omega arith), sign_length negative) (omega arith)

text_length : (z : ℤ) (number count : ℕ) → number ≡ nat_abs z → CountsDigits number count → length (decimal z) ≡ bool_byte (lt_z z (pos 0)) + count
text_length z number count e c =
    rw (decimal_parts z, length-append, ← e, counts_text number count c, places_length count number, sign_length (lt_z z (pos 0)))

-- In a column that is too narrow anything may stand.
pub justifies_narrow : (z : ℤ) (number count : ℕ) (before after : List ℕ) → number ≡ nat_abs z → CountsDigits number count
    → length before < count + bool_byte (lt_z z (pos 0)) → Justifies z before after
justifies_narrow z number count before after e c h = record { text = λ fits. absurd (omega (arith, fits, h, text_length z number count e c)) }

-- The columns before the digits are lent for the sign, and then the rest for the digits.
module _ (from : ℕ) (front rest : List ℕ) (same : length front ≡ from) where
  rest_lent : between from (length (front ++ rest)) (front ++ rest) ≡ rest
  rest_lent = rw (drop_at front rest from same, length-append) (take_all (length front + length rest - from) rest (omega arith))

  rest_done : drop (length (front ++ rest) - from) (drop from (front ++ rest)) ≡ []
  rest_done = rw (drop_at front rest from same, length-append) (drop_of_length-le rest {i = length front + length rest - from} (omega arith))

  -- The digits have the columns that they need.
  pub digits_fit : (number count : ℕ) → CountsDigits number count → length rest ≡ count
      → (length (between from (length (front ++ rest)) (front ++ rest)) ≤ most_digits)
      × (number < 10 ^ length (between from (length (front ++ rest)) (front ++ rest)))
  digits_fit number count c e = rw (rest_lent, e) (c.0.most, c.1)

  pub justifies_wide : (z : ℤ) (number count : ℕ) (before digits : List ℕ) → number ≡ nat_abs z → CountsDigits number count → from + count ≡ length before
      → length rest ≡ count → front ≡ justified (length (take from before)) (sign (lt_z z (pos 0)))
      → digits ≡ places (length (between from (length (front ++ rest)) (front ++ rest))) number
      → Justifies z before (take from (front ++ rest) ++ (digits ++ drop (length (front ++ rest) - from) (drop from (front ++ rest))))
  justifies_wide z number count before digits e c sum l signed shown =
      record {
        text = λ _.
            rw (take_at front rest from same, rest_done, append-nil, text)
            (ap (λ (t : List ℕ). t ++ digits) before_digits ∙ ap (λ (t : List ℕ). justified from mark ++ t) all ∙ sym apart);
      }
    where
      mark : List ℕ
      mark = sign (lt_z z (pos 0))

      text : decimal z ≡ mark ++ places count number
      text = decimal_parts z ∙ rw (← e, counts_text number count c)

      room : length (take from before) ≡ from
      room = length-take-le from before (omega arith)

      before_digits : front ≡ justified from mark
      before_digits = rw room at signed

      all : digits ≡ places count number
      all = shown ∙ rw (rest_lent, l)

      apart : justified (length before) (mark ++ places count number) ≡ justified from mark ++ places count number
      apart =
          let n : length before - length (places count number) ≡ from = omega (arith, places_length count number) in
          rw n at (justified_append (length before) mark (places count number) (omega (arith, places_length count number)))

-- ---- a number among other bytes

pub puts_part : (from width : ℕ) (z : ℤ) (before column : List ℕ) → from + width ≤ length before
    → length column ≡ length (between from (from + width) before) → Justifies z (between from (from + width) before) column
    → Puts from width z before (take from before ++ (column ++ drop (from + width - from) (drop from before)))
puts_part from width z before column h e j =
    record {
      text = λ fits. parts_middle left column right from width l m ∙ rw wide at (j.text (rw wide fits));
      left = parts_left left column right from width l m;
      right = parts_right left column right from width l m ∙ drop-drop (from + width - from) from before ∙ ap (λ (i : ℕ). drop (from + i) before) q;
    }
  where
    left : List ℕ
    left = take from before

    right : List ℕ
    right = drop (from + width - from) (drop from before)

    q : from + width - from ≡ width
    q = omega arith

    wide : length (between from (from + width) before) ≡ width
    wide = length-take-le (from + width - from) (drop from before) (rw length-drop (omega arith)) ∙ q

    l : length left ≡ from
    l = length-take-le from before (omega arith)

    m : length column ≡ width
    m = e ∙ wide

-- ---- a line, number after number

-- One more number after the bytes so far.
puts_more : {from width : ℕ} {z : ℤ} {before after text : List ℕ} → Puts from width z before after → FitsIn width z
    → take from before ≡ text → take (from + width) after ≡ text ++ justified width (decimal z)
puts_more {from} {width} {after = after} p fits e = take-add from width after ∙ rw (p.text fits, p.left, e)

drop_later : (i j : ℕ) (a b : List ℕ) → i ≤ j → drop i a ≡ drop i b → drop j a ≡ drop j b
drop_later i j a b h e =
    let q : j ≡ i + (j - i) = omega arith in
    rw (q, ← drop-drop (j - i) i a, ← drop-drop (j - i) i b, e)

puts_rest : {from width : ℕ} {z : ℤ} {before after : List ℕ} → Puts from width z before after → from + width ≤ 39 → drop 39 after ≡ drop 39 before
puts_rest {from} {width} {before = before} {after} p h = drop_later (from + width) 39 after before h p.right

pub answers : (letter : ℕ) (refusal offer value second : ℤ) (b₀ b₁ b₂ b₃ b₄ : List ℕ) → 39 ≤ length b₀ → 39 ≤ length b₄
    → Puts 1 3 refusal (set b₀ 0 letter) b₁ → Puts 4 6 offer b₁ b₂ → Puts 10 14 value b₂ b₃ → Puts 24 14 second b₃ b₄
    → Answers letter refusal offer value second b₀ (set b₄ 38 newline)
unfolding answer_line
answers letter refusal offer value second b₀ b₁ b₂ b₃ b₄ h₀ h₄ p₁ p₂ p₃ p₄ =
    record {
      text = λ f₁ f₂ f₃ f₄.
          take-suc-set b₄ 38 newline h₄
          ∙ ap (λ (t : List ℕ). t ++ newline ∷ []) (puts_more p₄ f₄
          (puts_more p₃ f₃ (puts_more p₂ f₂ (puts_more p₁ f₁ (take-suc-set b₀ 0 letter (omega arith))))));
      rest =
          drop-set-lt 39 b₄ 38 newline (omega arith) ∙ puts_rest p₄ (omega arith) ∙ puts_rest p₃ (omega arith) ∙ puts_rest p₂ (omega arith)
          ∙ puts_rest p₁ (omega arith) ∙ drop-set-lt 39 b₀ 0 letter (omega arith);
    }
