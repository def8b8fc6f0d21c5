-- A number's digits from the highest place down, as printing takes them off.
use Rattle.std.specs.Prelude.{ℕ, zero, suc, ◌+◌, ◌-◌, ◌*◌, ◌/◌, ◌%◌, ◌^◌, ◌≤◌, ◌<◌, ◌≡◌, refl, Bool, true, false, List, [], ◌∷◌, ◌++◌, leb, ltb, length, get_or, take, set, max}
use Rattle.std.proofs.Common.{ap, sym, subst, ◌∙◌, append_assoc, append-nil, pow-suc, mul_assoc, mul-one, zero-mul, suc-mul, mul-le-mul_right, arith, length-append, leb-true, leb-false, le-leb, ltb-true, ltb-false, take_all, take-suc-set}
use Rattle.std.proofs.lemmas.Bool.{lt-leb}
use Rattle.std.proofs.Math.Nat.{pow-zero, sub-zero, one-le-pow, pow-le-pow_right}
use Rattle.std.proofs.Math.Decide.{dec_lt}
use Rattle.std.proofs.Math.Numerals.{unary_clauses}
use Rattle.std.specs.List.{take_while, prefix_len}
use Rattle.std.proofs.lemmas.List.Sums.{prefix_len_passes, prefix_len_stops, prefix_len-le-length}
use Rattle.std.proofs.lemmas.List.Folds.{length-prefix_len}
use mir.Val.{bool_byte}
use Rattle.counter_print.specs.declared.Lead.{Lead}
use Rattle.counter_print.specs.Texts.{digit, numeral}
use Rattle.counter_print.specs.Decimals.{digits_none, digits_numeral}
use Rattle.counter_print.specs.Powers.{most_digits, PowersOfTen, power_at}

-- The last digits of a number, so many as are asked for: zeros stand where it has none.
unfoldable pub places : ℕ → ℕ → List ℕ
places zero n = []
places (suc k) n = places k (n / 10) ++ digit (n % 10) ∷ []

pub places_length : (k n : ℕ) → length (places k n) ≡ k
unfolding places
places_length zero n = refl
places_length (suc k) n = rw (length-append, places_length k (n / 10)) (omega arith)

-- ---- the highest of them

pub places_lead : (k d r : ℕ) → d < 10 → r < 10 ^ k → places (suc k) (d * 10 ^ k + r) ≡ digit d ∷ places k r
unfolding places
places_lead zero d r a h =
    let e : (d * 10 ^ 0 + r) % 10 ≡ d = rw (pow-zero 10, mul-one d) (omega (arith, pow-zero 10)) in
    ap (λ (c : ℕ). digit c ∷ []) e
places_lead (suc k) d r a h =
    let e : d * 10 ^ suc k ≡ 10 * (d * 10 ^ k) = omega (arith, ap (λ (p : ℕ). d * p) (pow-suc 10 k), mul_assoc d (10 ^ k) 10) in
    let tens : (d * 10 ^ suc k + r) / 10 ≡ d * 10 ^ k + r / 10 = omega (arith, e) in
    let last : (d * 10 ^ suc k + r) % 10 ≡ r % 10 = omega (arith, e) in
    rw (tens, last)
    (ap (λ (t : List ℕ). t ++ digit (r % 10) ∷ []) (places_lead k d (r / 10) a (omega (arith, pow-suc 10 k))))

-- ---- how many a number needs

-- No more than it is written with, and than a signed word has: 0 has one digit, and no other number begins with 0.
pub record Needed (number count : ℕ) : Type 0 where
  pub some : 0 < count
  pub most : count ≤ most_digits
  pub least : 1 < count → 10 ^ (count - 1) ≤ number

-- As many as it is written with.
abbrev pub CountsDigits : (number count : ℕ) → Type 0
CountsDigits number count = Needed number count × (number < 10 ^ count)

numeral_places : (k n : ℕ) → n < 10 ^ suc k → (0 < k → 10 ^ k ≤ n) → numeral n ≡ places (suc k) n
unfolding numeral places
numeral_places zero n h l =
    let e : n / 10 ≡ 0 = omega (arith, pow-suc 10 0, pow-zero 10) in
    rw (e, digits_none)
numeral_places (suc k) n h l =
    ap (λ (t : List ℕ). t ++ digit (n % 10) ∷ [])
    (digits_numeral (n / 10) (omega (arith, l (omega arith), low, pow-suc 10 k))
    ∙ numeral_places k (n / 10) (omega (arith, pow-suc 10 (suc k))) (λ _. omega (arith, l (omega arith), pow-suc 10 k)))
  where
    low : 1 ≤ 10 ^ k
    low = one-le-pow k 10 (omega arith)

pub counts_text : (n count : ℕ) → CountsDigits n count → numeral n ≡ places count n
counts_text n zero c = absurd (omega (arith, c.0.some))
counts_text n (suc k) c = numeral_places k n c.1 (λ h. simp unary_clauses at (c.0.least (omega arith)))

-- The powers that are no greater than a number tell how many, and 0, which has none, is written with one digit.
module _ (powers : List ℕ) (number : ℕ) (p : PowersOfTen powers) where
  abbrev no_greater : ℕ → Bool
  no_greater power = leb power number

  below_next : number < 10 ^ most_digits → number < 10 ^ prefix_len no_greater powers
  below_next fits = go (dec_lt (prefix_len no_greater powers) (length powers))
    where
      go : Dec (prefix_len no_greater powers < length powers) → number < 10 ^ prefix_len no_greater powers
      go (yes h) =
          let above : number < get_or powers (prefix_len no_greater powers) 0 = leb-false _ _ (prefix_len_stops no_greater powers 0 h) in
          omega (arith, above, power_at p (prefix_len no_greater powers) h)
      go (no h) =
          let all : most_digits ≡ prefix_len no_greater powers = omega (arith, p.size, prefix_len-le-length no_greater powers) in
          subst (λ (k : ℕ). number < 10 ^ k) all fits

  counts_prefix : (count : ℕ) → prefix_len no_greater powers ≡ count → number < 10 ^ most_digits → CountsDigits number (max count 1)
  counts_prefix zero e fits = (record { some = omega arith; most = omega arith; least = λ h. absurd (omega arith) }, omega (arith, pow-zero 10, subst (λ (k : ℕ). number < 10 ^ k) e (below_next fits)))
  counts_prefix (suc k) e fits = (
    record {
      some = omega arith;
      most = omega (arith, p.size, prefix_len-le-length no_greater powers);
      least = λ _. rw back (omega (arith, low, power_at p k short));
    },
    rw same (subst (λ (k : ℕ). number < 10 ^ k) e (below_next fits)),
  )
    where
      short : k < length powers
      short = omega (arith, prefix_len-le-length no_greater powers)

      low : get_or powers k 0 ≤ number
      low = leb-true _ _ (prefix_len_passes no_greater powers k 0 (omega arith))

      same : max (suc k) 1 ≡ suc k
      same = omega arith

      back : max (suc k) 1 - 1 ≡ k
      back = omega arith

  pub counts_powers : number < 10 ^ most_digits → CountsDigits number (max (length (take_while no_greater powers)) 1)
  counts_powers fits = rw (length-prefix_len no_greater powers) (counts_prefix (prefix_len no_greater powers) refl fits)

-- ---- one digit

-- The digit at the power's place, and what is left below it.
pub record LeadDigit (number power : ℕ) (lead : Lead) : Type 0 where
  pub whole : lead.digit * power + lead.rest ≡ number
  pub small : lead.digit < 10
  pub less : lead.rest < power

-- While the power's multiples are compared, before the multiple `times`: it goes in `digit` times, and more often only if all that were tried went in.
pub record Tried (number power digit times : ℕ) : Type 0 where
  pub low : digit * power ≤ number
  pub high : digit < times
  pub next : suc digit < times → number < suc digit * power

pub tried_none : (number power : ℕ) → Tried number power 0 1
tried_none number power = record { low = omega (arith, zero-mul power); high = omega arith; next = λ h. absurd (omega arith) }

module _ {number power digit times : ℕ} (g : Tried number power digit times) where
  -- Where the next multiple goes in, all before it did; where it does not, no more than `digit` do.
  all_before : times * power ≤ number → suc digit ≡ times
  all_before h = go (dec_lt (suc digit) times)
    where
      go : Dec (suc digit < times) → suc digit ≡ times
      go (yes few) = absurd (omega (arith, h, g.next few, mul-le-mul_right {m = suc digit} {n = times} power (omega arith)))
      go (no all) = omega (arith, g.high)

  no_more : number < times * power → number < suc digit * power
  no_more h = go (dec_lt (suc digit) times)
    where
      go : Dec (suc digit < times) → number < suc digit * power
      go (yes few) = g.next few
      go (no all) = let same : suc digit ≡ times = omega (arith, g.high) in rw same h

  pub tried_more : Tried number power (digit + bool_byte (leb (times * power) number)) (times + 1)
  tried_more = go (leb (times * power) number) refl
    where
      go : (b : Bool) → leb (times * power) number ≡ b → Tried number power (digit + bool_byte b) (times + 1)
      go true e =
          let h : times * power ≤ number = leb-true (times * power) number e in
          let same : digit + 1 ≡ times = omega (arith, all_before h) in
          record { low = rw same h; high = omega arith; next = λ less. absurd (omega arith) }
      go false e =
          let none : digit + 0 ≡ digit = omega arith in
          rw none
          (record {
            low = g.low;
            high = omega (arith, g.high);
            next = λ _. no_more (leb-false (times * power) number e);
          })

  pub tried_done : times ≡ 10 → number < 10 * power → LeadDigit number power (record { digit = digit; rest = number - digit * power })
  tried_done nine below =
      record {
        whole = omega (arith, g.low);
        small = omega (arith, g.high);
        less = omega (arith, no_more (rw nine below), suc-mul digit power);
      }

-- The same, counted down from 9 by each multiple that does not go in.
pub record Passed (number power digit times : ℕ) : Type 0 where
  pub some : 10 ≤ digit + times
  pub tried : Tried number power (digit + times - 10) times

pub passed_none : (number power : ℕ) → Passed number power 9 1
passed_none number power = record { some = omega arith; tried = tried_none number power }

module _ {number power digit times : ℕ} (g : Passed number power digit times) where
  pub passed_room : times < 10 → bool_byte (ltb number (times * power)) ≤ digit
  passed_room few = go (ltb number (times * power))
    where
      go : (b : Bool) → bool_byte b ≤ digit
      go true = omega (arith, g.some, few)
      go false = omega arith

  pub passed_more : times < 10 → Passed number power (digit - bool_byte (ltb number (times * power))) (times + 1)
  passed_more few = go (ltb number (times * power)) refl
    where
      next : Tried number power (digit + times - 10 + bool_byte (leb (times * power) number)) (times + 1)
      next = tried_more g.tried

      go : (b : Bool) → ltb number (times * power) ≡ b → Passed number power (digit - bool_byte b) (times + 1)
      go true e =
          let over : number < times * power = ltb-true number (times * power) e in
          let none : leb (times * power) number ≡ false = lt-leb (times * power) number over in
          let same : digit + times - 10 + 0 ≡ digit - 1 + (times + 1) - 10 = omega (arith, g.some, few) in
          record {
            some = omega (arith, g.some, few);
            tried = subst (λ (n : ℕ). Tried number power n (times + 1)) same (rw none at next);
          }
      go false e =
          let under : times * power ≤ number = ltb-false number (times * power) e in
          let one : leb (times * power) number ≡ true = le-leb (times * power) number under in
          let same : digit + times - 10 + 1 ≡ digit - 0 + (times + 1) - 10 = omega (arith, g.some) in
          record {
            some = omega (arith, g.some);
            tried = subst (λ (n : ℕ). Tried number power n (times + 1)) same (rw one at next);
          }

  pub passed_done : times ≡ 10 → number < 10 * power → LeadDigit number power (record { digit = digit; rest = number - digit * power })
  passed_done nine below =
      let same : digit + times - 10 ≡ digit = omega (arith, nine) in
      tried_done (subst (λ (n : ℕ). Tried number power n times) same g.tried) nine below

-- A multiple that is compared fits 64 bits.
pub multiple_fits : (times power : ℕ) → times ≤ 10 → 10 * power < 2 ^ 64 → times * power < 2 ^ 64
multiple_fits times power few h = omega (arith, h, mul-le-mul_right power few)

-- What a digit is taken off is below ten times the power of its place, which fits 64 bits.
module _ (powers : List ℕ) (p : PowersOfTen powers) (place : ℕ) (most : place < most_digits) where
  pub place_power : get_or powers place 0 ≡ 10 ^ place
  place_power = power_at p place (omega (arith, p.size))

  pub lead_asks : (rest : ℕ) → rest < 10 ^ suc place → (rest < 10 * get_or powers place 0) × (10 * get_or powers place 0 < 2 ^ 64)
  lead_asks rest small = (omega (arith, small, place_power, pow-suc 10 place), omega (arith, place_power, low))
    where
      low : 10 ^ place ≤ 10 ^ 18
      low = pow-le-pow_right (omega arith) {i = place} {j = 18} (omega arith)

-- ---- all digits, the highest first

-- While a column is filled: `at` digits stand there, and those of what is left are to come.
pub record Putting (number : ℕ) (before column : List ℕ) (at rest : ℕ) : Type 0 where
  pub small : rest < 10 ^ (length before - at)
  pub text : places (length before) number ≡ take at column ++ places (length before - at) rest

pub putting_more : {number : ℕ} {before column : List ℕ} {at rest power : ℕ} {lead : Lead} → Putting number before column at rest
    → length column ≡ length before → at < length before → power ≡ 10 ^ (length before - 1 - at) → LeadDigit rest power lead
    → Putting number before (set column at (digit lead.digit)) (at + 1) lead.rest
putting_more {before = before} {column} {at} {rest} {power} {lead} p size some e l =
    record {
      small = rw (← left) (omega (arith, l.less, e));
      text = p.text ∙ ap (λ (t : List ℕ). take at column ++ t) top ∙ rw (next, shown, append_assoc, back);
    }
  where
    left : length before - 1 - at ≡ length before - (at + 1)
    left = omega arith

    top : places (length before - at) rest ≡ digit lead.digit ∷ places (length before - 1 - at) lead.rest
    top =
        let one : length before - at ≡ suc (length before - 1 - at) = omega arith in
        rw (one, ← l.whole, e) (places_lead (length before - 1 - at) lead.digit lead.rest l.small (omega (arith, l.less, e)))

    next : at + 1 ≡ suc at
    next = omega arith

    back : length before - suc at ≡ length before - 1 - at
    back = omega arith

    shown : take (suc at) (set column at (digit lead.digit)) ≡ take at column ++ digit lead.digit ∷ []
    shown = take-suc-set column at (digit lead.digit) (omega (arith, size))

pub putting_none : (number : ℕ) (before : List ℕ) → number < 10 ^ length before → Putting number before before 0 number
putting_none number before h = record { small = rw (sub-zero) h; text = rw (sub-zero) refl }

pub putting_done : {number : ℕ} {before column : List ℕ} {at rest : ℕ} → Putting number before column at rest → length before ≤ at
    → length column ≡ length before → column ≡ places (length before) number
unfolding places
putting_done {before = before} {column} {at} p all size =
    let none : length before - at ≡ 0 = omega arith in
    sym (p.text ∙ rw (none, append-nil) (take_all at column (omega (arith, size))))
