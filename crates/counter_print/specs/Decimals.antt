-- What a number's decimal text is made of, and how long it is.
use Prim.Native.Nat.{ℕ, zero, suc, ◌+◌, ◌/◌, ◌%◌, ◌^◌, ◌≤◌, ◌<◌}
use Rattle.std.specs.Prelude.{◌≡◌, refl, Bool, true, false, ◌&&◌, List, [], ◌∷◌, ◌++◌, length, get_or, ℤ, pos, negsuc, nat_abs, T, leb}
use Rattle.std.proofs.Common.{ap, pow-suc, arith, length-append, SFits, le-leb, le-ltb}
use Rattle.std.proofs.Math.Nat.{pow-zero}
use Rattle.std.proofs.Math.Decide.{dec_lt}
use Rattle.std.specs.Int.{w64}
use Rattle.std.specs.Int.Signed.{lt_z}
use Rattle.lists.specs.Filter.{every}
use Rattle.counter_print.specs.Texts.{digit, minus, digits_within, digits, numeral, decimal, FitsIn}
use Rattle.lists.specs.Bools.{and_both, and_left, and_right}

-- ---- the two laws that the rest goes by

-- More room gives the same digits.
digits_within_lem : (j k n : ℕ) → n ≤ j → n ≤ k → digits_within j n ≡ digits_within k n
unfolding digits_within
digits_within_lem zero zero n a b = refl
digits_within_lem zero (suc k) zero a b = refl
digits_within_lem zero (suc k) (suc m) a b = absurd (omega arith)
digits_within_lem (suc j) zero zero a b = refl
digits_within_lem (suc j) zero (suc m) a b = absurd (omega arith)
digits_within_lem (suc j) (suc k) zero a b = refl
digits_within_lem (suc j) (suc k) (suc m) a b = ap (λ (t : List ℕ). t ++ digit (suc m % 10) ∷ []) (digits_within_lem j k (suc m / 10) (omega arith) (omega arith))

pub digits_none : digits 0 ≡ []
unfolding digits digits_within
digits_none = refl

digits_more : (n : ℕ) → 0 < n → digits n ≡ digits (n / 10) ++ digit (n % 10) ∷ []
unfolding digits digits_within
digits_more zero h = absurd (omega arith)
digits_more (suc m) h = ap (λ (t : List ℕ). t ++ digit (suc m % 10) ∷ []) (digits_within_lem m (suc m / 10) (suc m / 10) (omega arith) (omega arith))

pub digits_numeral : (n : ℕ) → 0 < n → digits n ≡ numeral n
unfolding numeral
digits_numeral n h = digits_more n h

-- What holds of no digits, and of a number's digits where it holds of its tens', holds of every number's.
module _ (Q : ℕ → List ℕ → Type 0) (none : Q 0 []) (more : (n : ℕ) (t : List ℕ) → 0 < n → Q (n / 10) t → Q n (t ++ digit (n % 10) ∷ [])) where
  along_within : (k n : ℕ) → n ≤ k → Q n (digits_within k n)
  unfolding digits_within
  along_within zero zero h = none
  along_within zero (suc m) h = absurd (omega arith)
  along_within (suc k) zero h = none
  along_within (suc k) (suc m) h = more (suc m) (digits_within k (suc m / 10)) (omega arith) (along_within k (suc m / 10) (omega arith))

  pub along : (n : ℕ) → Q n (digits n)
  unfolding digits
  along n = along_within n n (omega arith)

-- ---- its characters

abbrev pub is_digit : ℕ → Bool
is_digit b = leb 48 b && leb b 57

pub digit_is : (d : ℕ) → d < 10 → is_digit (digit d) ≡ true
digit_is d h = rw (le-leb 48 (48 + d) (omega arith), le-leb (48 + d) 57 (omega arith))

every_snoc : (t : List ℕ) (b : ℕ) → T (every is_digit t) → is_digit b ≡ true → T (every is_digit (t ++ b ∷ []))
every_snoc [] b h e = rw e tt
every_snoc (c ∷ t) b h e =
    and_both (is_digit c) (every is_digit (t ++ b ∷ [])) (and_left (is_digit c) (every is_digit t) h)
    (every_snoc t b (and_right (is_digit c) (every is_digit t) h) e)

pub digits_characters : (n : ℕ) → T (every is_digit (digits n))
digits_characters n = along (λ _ t. T (every is_digit t)) tt (λ m t _ h. every_snoc t _ h (digit_is (m % 10) (omega arith))) n

pub numeral_characters : (n : ℕ) → T (every is_digit (numeral n))
unfolding numeral
numeral_characters n = every_snoc (digits (n / 10)) _ (digits_characters (n / 10)) (digit_is (n % 10) (omega arith))

-- No leading zero, but for 0 itself.
abbrev Leads : ℕ → List ℕ → Type 0
Leads m t = (m ≡ 0 → t ≡ []) × (0 < m → digit 0 < get_or t 0 0)

leads_more : (m : ℕ) (t : List ℕ) → 0 < m → Leads (m / 10) t → Leads m (t ++ digit (m % 10) ∷ [])
leads_more m [] a q = (λ e. absurd (omega arith), λ _. go (dec_lt 0 (m / 10)))
  where
    go : Dec (0 < m / 10) → digit 0 < digit (m % 10)
    go (yes h) = absurd (omega (arith, q.1 h))
    go (no h) = omega arith
leads_more m (c ∷ t) a q = (λ e. absurd (omega arith), λ _. go (dec_lt 0 (m / 10)))
  where
    go : Dec (0 < m / 10) → digit 0 < c
    go (yes h) = q.1 h
    go (no h) = let z : ◌≡◌ {A = ℕ} (suc (length t)) 0 = ap length (q.0 (omega arith)) in absurd (omega arith)

pub leading_digit : (n : ℕ) → 0 < n → digit 0 < get_or (numeral n) 0 0
leading_digit n h = rw (← digits_numeral n h) ((along Leads (λ _. refl, λ a. absurd (omega arith)) leads_more n).1 h)

-- The minus before a number below 0, and nothing before another.
abbrev pub sign : Bool → List ℕ
sign true = minus ∷ []
sign false = []

pub decimal_parts : (z : ℤ) → decimal z ≡ sign (lt_z z (pos 0)) ++ numeral (nat_abs z)
unfolding decimal
decimal_parts (pos n) = rw (le-ltb n 0 (omega arith))
decimal_parts (negsuc n) = refl

-- The minus stands in front, then digits alone, and no zero leads them but that of 0.
pub record DecimalForm (z : ℤ) (text : List ℕ) : Type 0 where
  pub parts : text ≡ sign (lt_z z (pos 0)) ++ numeral (nat_abs z)
  pub behind : T (every is_digit (numeral (nat_abs z)))
  pub leading : 0 < nat_abs z → digit 0 < get_or (numeral (nat_abs z)) 0 0

pub decimal_form : (z : ℤ) → DecimalForm z (decimal z)
decimal_form z = record { parts = decimal_parts z; behind = numeral_characters (nat_abs z); leading = leading_digit (nat_abs z) }

-- ---- how long it is

pub digits_length : (k n : ℕ) → n < 10 ^ k → length (digits n) ≤ k
digits_length zero n h = let e : n ≡ 0 = omega (arith, pow-zero 10) in rw (e, digits_none) (omega arith)
digits_length (suc k) zero h = rw digits_none (omega arith)
digits_length (suc k) (suc m) h =
    rw (digits_more (suc m) (omega arith), length-append)
    (omega (arith, digits_length k (suc m / 10) (omega (arith, pow-suc 10 k))))

pub numeral_length : (k n : ℕ) → 0 < k → n < 10 ^ k → length (numeral n) ≤ k
unfolding numeral
numeral_length zero n a h = absurd (omega arith)
numeral_length (suc k) n a h = rw length-append (omega (arith, digits_length k (n / 10) (omega (arith, pow-suc 10 k))))

pub numeral_some : (n : ℕ) → 0 < length (numeral n)
unfolding numeral
numeral_some n = rw length-append (omega arith)

pub decimal_some : (z : ℤ) → 0 < length (decimal z)
unfolding decimal
decimal_some (pos n) = numeral_some n
decimal_some (negsuc n) = omega arith

-- A number of at most k digits fits a column of k + 1, with its minus.
pub fits_column : (k : ℕ) (z : ℤ) → 0 < k → nat_abs z < 10 ^ k → FitsIn (k + 1) z
unfolding decimal
fits_column k (pos n) a h = omega (arith, numeral_length k n a h)
fits_column k (negsuc n) a h = omega (arith, numeral_length k (suc n) a h)

-- Without one it fits a column of k.
pub fits_unsigned : (k n : ℕ) → 0 < k → n < 10 ^ k → FitsIn k (pos n)
unfolding decimal
fits_unsigned k n a h = numeral_length k n a h

-- Any word fits a column of 20.
pub fits_word : (z : ℤ) → SFits w64 z → FitsIn 20 z
fits_word (pos n) f = fits_column 19 (pos n) (omega arith) (omega arith)
fits_word (negsuc n) f = fits_column 19 (negsuc n) (omega arith) (omega arith)
