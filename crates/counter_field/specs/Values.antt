-- The number that a text tells: what its digits say, and negative where it has a minus. Whatever else stands in the text is passed over,
-- so that only a text that is justified decimal is told apart by what it tells.
use Rattle.std.specs.Prelude.{ℕ, zero, suc, ◌+◌, ◌-◌, ◌*◌, ◌/◌, ◌%◌, ◌^◌, ◌≤◌, ◌<◌, ◌≡◌, refl, Bool, true, false, ◌&&◌, ◌||◌, cond, List, [], ◌∷◌, ◌++◌, length, replicate, get_or, drop, ℤ, pos, negsuc, neg_ℤ, ◌-ℤ◌, T, leb, eqb}
use Rattle.std.proofs.Common.{ap, sym, ◌∙◌, pow-suc, arith, drop_of_length-le, drop-cons, add-one, leb→le, leb-true, eqb-true, ne_eqb}
use Rattle.std.proofs.Math.Nat.{pow-zero, pow-le-pow_right}
use Rattle.std.proofs.Math.IntN.{+ℤ_idl}
use Rattle.std.specs.List.{list_any}
use Rattle.lists.specs.Filter.{every}
use Rattle.counter_print.specs.Texts.{space, minus, digit, digits, numeral, decimal, justified, FitsIn}
use Rattle.counter_print.specs.Decimals.{is_digit, digit_is, along, numeral_length, numeral_characters}
use Rattle.lists.specs.Bools.{and_left, and_right}

-- One more byte.
unfoldable pub taken : ℕ → ℕ → ℕ
taken v b = cond (is_digit b) (10 * v + (b - 48)) v

-- The value of the digits, after those that said v.
unfoldable pub value_from : ℕ → List ℕ → ℕ
value_from v [] = v
value_from v (b ∷ t) = value_from (taken v b) t

unfoldable pub has_minus : List ℕ → Bool
has_minus [] = false
has_minus (b ∷ t) = eqb b minus || has_minus t

abbrev pub signed : Bool → ℕ → ℤ
signed true n = neg_ℤ (pos n)
signed false n = pos n

unfoldable pub told : List ℕ → ℤ
told t = signed (has_minus t) (value_from 0 t)

-- ---- it tells the number of a justified decimal

value_append : (v : ℕ) (s t : List ℕ) → value_from v (s ++ t) ≡ value_from (value_from v s) t
unfolding value_from
value_append v [] t = refl
value_append v (b ∷ s) t = value_append (taken v b) s t

taken_digit : (v d : ℕ) → d < 10 → taken v (digit d) ≡ 10 * v + d
unfolding taken
taken_digit v d h = rw (digit_is d h) (omega arith)

value_spaces : (v k : ℕ) (t : List ℕ) → value_from v (replicate k space ++ t) ≡ value_from v t
unfolding value_from taken
value_spaces v zero t = refl
value_spaces v (suc k) t = value_spaces v k t

value_snoc : (n : ℕ) (t : List ℕ) → value_from 0 t ≡ n / 10 → value_from 0 (t ++ digit (n % 10) ∷ []) ≡ n
unfolding value_from
value_snoc n t e = value_append 0 t (digit (n % 10) ∷ []) ∙ taken_digit _ _ (omega arith) ∙ rw e (omega arith)

pub value_digits : (n : ℕ) → value_from 0 (digits n) ≡ n
value_digits n = along (λ m t. value_from 0 t ≡ m) (unfold value_from in refl) (λ m t _ e. value_snoc m t e) n

pub value_numeral : (n : ℕ) → value_from 0 (numeral n) ≡ n
unfolding numeral
value_numeral n = value_snoc n (digits (n / 10)) (value_digits (n / 10))

minus_spaces : (k : ℕ) (t : List ℕ) → has_minus (replicate k space ++ t) ≡ has_minus t
unfolding has_minus
minus_spaces zero t = refl
minus_spaces (suc k) t = minus_spaces k t

no_minus : (t : List ℕ) → T (every is_digit t) → has_minus t ≡ false
unfolding has_minus
no_minus [] h = refl
no_minus (b ∷ t) h = rw (ne_eqb b minus (λ e. omega (arith, leb→le 48 b (and_left (leb 48 b) (leb b 57) (and_left (is_digit b) (every is_digit t) h)))))
    (no_minus t (and_right (is_digit b) (every is_digit t) h))

minus_numeral : (n : ℕ) → has_minus (numeral n) ≡ false
minus_numeral n = no_minus (numeral n) (numeral_characters n)

told_text : (z : ℤ) → told (decimal z) ≡ z
unfolding told decimal
told_text (pos n) = rw (minus_numeral n, value_numeral n)
told_text (negsuc n) = unfold has_minus value_from taken in rw (value_numeral (suc n))

pub told_justified : (w : ℕ) (z : ℤ) → told (justified w (decimal z)) ≡ z
unfolding told justified
told_justified w z = rw (minus_spaces, value_spaces) (told_text z)

-- So a justified text has one number, at any width.
pub justified_unique : (v w : ℕ) (a b : ℤ) → justified v (decimal a) ≡ justified w (decimal b) → a ≡ b
justified_unique v w a b e = sym (told_justified v a) ∙ ap told e ∙ told_justified w b

pub decimal_injective : (a b : ℤ) → decimal a ≡ decimal b → a ≡ b
decimal_injective a b e = sym (told_text a) ∙ ap told e ∙ told_text b

-- ---- a text of w bytes tells a number that fits a column of w

abbrev bit : Bool → ℕ
bit true = 1
bit false = 0

ten : {i j : ℕ} → i ≤ j → 10 ^ i ≤ 10 ^ j
ten h = pow-le-pow_right (omega arith) h

pub taken_small : (v b i : ℕ) → v < 10 ^ i → taken v b < 10 ^ suc i
unfolding taken
taken_small v b i h = go (leb 48 b) (leb b 57) refl
  where
    go : (x y : Bool) → leb b 57 ≡ y → cond (x && y) (10 * v + (b - 48)) v < 10 ^ suc i
    go true true e = omega (arith, pow-suc 10 i, leb-true b 57 e)
    go true false e = omega (arith, pow-suc 10 i)
    go false y e = omega (arith, pow-suc 10 i)

abbrev Small : (i : ℕ) → List ℕ → (m : Bool) → (n : ℕ) → Type 0
Small i t m n = n < 10 ^ (i + length t - bit m)

value_small : (t : List ℕ) (i v : ℕ) → v < 10 ^ i → Small i t (has_minus t) (value_from v t)
unfolding value_from has_minus taken
value_small [] i v h = omega (arith, ten {i = i} {j = i + 0 - 0} (omega arith))
value_small (b ∷ t) i v h = go (eqb b minus) refl (value_small t)
  where
    go : (m : Bool) → eqb b minus ≡ m → ((j u : ℕ) → u < 10 ^ j → Small j t (has_minus t) (value_from u t)) →
        Small i (b ∷ t) (m || has_minus t) (value_from (taken v b) t)
    go true e rest =
        let q : b ≡ minus = eqb-true b minus e in
        rw q (omega (arith, rest i v h, ten {i = i + length t - bit (has_minus t)} {j = i + suc (length t) - 1} (omega arith)))
    go false e rest = omega (
      arith,
      rest (suc i) (taken v b) (taken_small v b i h),
      ten {i = suc i + length t - bit (has_minus t)} {j = i + suc (length t) - bit (has_minus t)} (omega arith),
    )

some_power : (k n : ℕ) → suc n < 10 ^ k → 0 < k
some_power zero n h = absurd (omega (arith, pow-zero 10))
some_power (suc k) n h = omega arith

pub told_fits : (t : List ℕ) → 0 < length t → FitsIn (length t) (told t)
unfolding told decimal
told_fits t h = go (has_minus t) (value_from 0 t) (value_small t 0 0 (omega (arith, pow-zero 10)))
  where
    go : (m : Bool) (n : ℕ) → Small 0 t m n → FitsIn (length t) (signed m n)
    go false n s = numeral_length (length t) n h (omega (arith, ten {i = 0 + length t - 0} {j = length t} (omega arith)))
    go true zero s = omega (arith, numeral_length 1 0 (omega arith) (omega (arith, pow-suc 10 0)))
    go true (suc n) s = omega (arith, numeral_length (0 + length t - 1) (suc n) (some_power (0 + length t - 1) n s) s)

-- ---- as a loop reads it, from the front

-- The bytes before `at` say the value.
pub record ReadTo (text : List ℕ) (value at : ℕ) : Type 0 where
  pub high : at ≤ length text
  pub same : value_from 0 text ≡ value_from value (drop at text)
  pub small : value < 10 ^ at

pub read_none : (text : List ℕ) → ReadTo text 0 0
read_none text = record { high = omega arith; same = refl; small = omega (arith, pow-zero 10) }

pub read_more : {text : List ℕ} {value at v : ℕ} → ReadTo text value at → at < length text → v ≡ taken value (get_or text at 0) → ReadTo text v (at + 1)
unfolding value_from
read_more {text} {value} {at} {v} r h e =
    record {
      high = omega arith;
      same = r.same ∙ rw (drop-cons text at 0 h, add-one at, e);
      small = rw (e, add-one at) (taken_small value (get_or text at 0) at r.small);
    }

pub read_all : {text : List ℕ} {value at : ℕ} → ReadTo text value at → length text ≤ at → value ≡ value_from 0 text
unfolding value_from
read_all {text} {value} {at} r h = sym (r.same ∙ rw (drop_of_length-le text {i = at} h))

-- With at most 18 bytes the value is far below 2^63.
pub read_small : {text : List ℕ} {value at : ℕ} → ReadTo text value at → length text ≤ 18 → value < 10 ^ 18
read_small {at = at} r h = omega (arith, r.small, ten {i = at} {j = 18} (omega (arith, r.high)))

-- As a search of the whole text tells.
pub has_minus_any : (text : List ℕ) → has_minus text ≡ list_any (λ b. eqb b minus) text
unfolding has_minus
has_minus_any [] = refl
has_minus_any (b ∷ t) = ap (λ (m : Bool). eqb b minus || m) (has_minus_any t)

-- ---- its sign

pub told_minus : (text : List ℕ) {v : ℕ} → v ≡ value_from 0 text → true ≡ has_minus text → pos 0 -ℤ pos v ≡ told text
unfolding told
told_minus text {v} e m = rw (← m, ← e) (+ℤ_idl (neg_ℤ (pos v)))

pub told_plain : (text : List ℕ) {v : ℕ} → v ≡ value_from 0 text → false ≡ has_minus text → pos v ≡ told text
unfolding told
told_plain text e m = rw (← m, ← e)
