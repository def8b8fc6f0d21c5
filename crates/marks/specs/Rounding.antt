-- IEEE 754's rounding (lib.Ieee's `round`) of a fraction a / c is at most half a unit of its last digit off, in either format, where
-- the fraction is neither so small that digits are lost nor so large that it overflows. All over natural numbers.
use Prim.Native.Nat.{ℕ, zero, suc, ◌+◌, ◌-◌, ◌*◌, ◌/◌, ◌%◌, ◌^◌, ◌≤◌, ◌<◌, compare, Ordering}
use Rattle.std.specs.Prelude.{◌≡◌, refl, ◌⊎◌, Bool, not, T, eqb, ℤ, Float}
use Rattle.std.proofs.Common.{sym, ap, ◌∙◌, subst, inl, inr, le_refl, le_trans, le_of_mul-le-mul_right, eq-or-lt_of_le, mul-pos, mul-le-mul_right, mod-lt, div-add-mod', le-div_iff_mul-le, arith, leb→le, eqb→eq, pow-add, pow_pos, pow_mono}
use Rattle.std.proofs.Math.Nat.{le-suc, eq_of_mul-eq-mul_right, div-div-eq-div-mul, two-pow-succ}
use Rattle.std.proofs.Math.Dec.{is_le, compare_is_eq, nleb→lt, eqb_refl}
use Rattle.std.proofs.Math.Arith.{lt_of_le-ne}
use Rattle.std.proofs.Math.Pow.{pow-lt}
use Rattle.std.specs.Float.{nan, inf, fin, Format}
use Rattle.std.specs.Float.Ieee.{prec, low, up, down, minus, size, nearest, units, round}
use Rattle.std.specs.Float.Ieee.Digits.{size_reaches, minus_val}
use Rattle.std.specs.Float.Ieee.Fits.{nearest-le, kept-lt, round_is, two}
use Rattle.std.specs.Float.Ieee.Exact.{HasValue, units_val}
use Rattle.std.specs.Float.Ieee.Nearest.{closest, nearest-ge}
use Rattle.std.specs.Float.Ieee.Order.{drop, kept}
use Rattle.std.specs.Float.Ieee.Scale.{grid, overflow}

-- ---- the nearest whole number to a / b is at most a half off

abbrev Cmp : Ordering → ℕ → ℕ → Type 0
Cmp Ordering.lt a b = a < b
Cmp Ordering.eq a b = a ≡ b
Cmp Ordering.gt a b = b < a

cmp : (a b : ℕ) → Cmp (compare a b) a b
cmp a b = go (compare a b) (leb→le a b) (nleb→lt a b) (eqb→eq a b) (λ (e : a ≡ b). subst (λ (x : ℕ). T (eqb a x)) e (eqb_refl a))
  where
    go : (o : Ordering) → (T (is_le o) → a ≤ b) → (T (not (is_le o)) → b < a) → (T (compare_is_eq o) → a ≡ b) → (a ≡ b → T (compare_is_eq o)) → Cmp o a b
    go Ordering.lt h k e n = lt_of_le-ne (h tt) n
    go Ordering.eq h k e n = e tt
    go Ordering.gt h k e n = k tt

-- twice q × b is within w of twice a
abbrev pub Within : (a b q w : ℕ) → Type 0
Within a b q w = (2 * a ≤ 2 * (q * b) + w) × (2 * (q * b) ≤ 2 * a + w)

closest_half : (a b : ℕ) → 0 < b → Within a b (closest a b) b
closest_half a b B = go (a / b) (a % b) (div-add-mod' a b) (mod-lt a B) (compare (a % b * 2) b) (cmp (a % b * 2) b)
  where
    tie : (q r t : ℕ) → q * b + r ≡ a → r * 2 ≡ b → t < 2 → Within a b (q + t) b
    tie q r zero e h k = omega arith
    tie q r (suc zero) e h k = omega arith
    tie q r (suc (suc t)) e h k = let f : ⊥ = omega arith in absurd f

    parity : (q : ℕ) → q % 2 < 2
    parity q = omega arith

    go : (q r : ℕ) → q * b + r ≡ a → r < b → (o : Ordering) → Cmp o (r * 2) b → Within a b (nearest q o) b
    go q r e l Ordering.lt h = omega arith
    go q r e l Ordering.eq h = tie q r (q % 2) e h (parity q)
    go q r e l Ordering.gt h = omega arith

-- ---- the number kept has all the format's digits, or is the next power of two

module _ (p n c : ℕ) (P : 2 ≤ p) (enough : p ≤ size (n / c)) where
  pub kept_most : kept p n c ≤ 2 ^ p
  kept_most =
      let u = c * 2 ^ drop p n c in
      le_trans (nearest-le (n / u) (compare (n % u * 2) u)) (subst (λ (x : ℕ). x < 2 ^ p) (div-div-eq-div-mul n c (2 ^ drop p n c)) (kept-lt p (n / c)))

  kept_least : 2 ^ (p - 1) ≤ kept p n c
  kept_least =
      let u = c * 2 ^ drop p n c in
      let j : p - 1 + drop p n c < size (n / c) = omega arith in
      let h : 2 ^ (p - 1) * 2 ^ drop p n c ≤ n / c = subst (λ (x : ℕ). x ≤ n / c) (pow-add 2 (p - 1) (drop p n c))
      (size_reaches (n / c) (p - 1 + drop p n c) j) in
      le_trans (subst (λ (x : ℕ). 2 ^ (p - 1) ≤ x) (div-div-eq-div-mul n c (2 ^ drop p n c)) ((le-div_iff_mul-le (pow_pos (drop p n c))).1 h))
      (nearest-ge (n / u) (compare (n % u * 2) u))

-- ---- x is m × 2 ^ e with all digits, and a / c is at most half of 2 ^ e off. 2 ^ e is the fraction up e / down e.

pub record Near (f : Format) (x : Float) (s : Bool) (a c : ℕ) : Type 0 where
  pub m : ℕ
  pub e : ℤ
  pub value : HasValue x s (m * up e) (down e)
  pub full : 2 ^ (prec f - 1) ≤ m
  pub short : m < 2 ^ prec f
  pub half : Within (a * down e) (up e * c) m (up e * c)

-- ---- from multiples of 2 ^ -l to a fraction in lowest powers

-- u / d is j / l: what holds at the second fraction holds at the first
to_fraction : (a c m j l u d : ℕ) → 0 < l → u * l ≡ j * d → Within (a * l) (j * c) m (j * c) → Within (a * d) (u * c) m (u * c)
to_fraction a c m j l u d L e h = (
  le_of_mul-le-mul_right (omega (arith, x, y, mul-le-mul_right d h.0)) L,
  le_of_mul-le-mul_right (omega (arith, x, y, mul-le-mul_right d h.1)) L,
)
  where
    x : m * c * (u * l) ≡ m * c * (j * d)
    x = ap (λ (t : ℕ). m * c * t) e

    y : c * (u * l) ≡ c * (j * d)
    y = ap (λ (t : ℕ). c * t) e

same_value : (x : Float) (s : Bool) (m j l u d : ℕ) → 0 < l → u * l ≡ j * d → HasValue x s (m * j) l → HasValue x s (m * u) d
same_value nan s m j l u d L e h = h
same_value (inf t) s m j l u d L e h = h
same_value (fin t n g) s m j l u d L e h = (
  h.0,
  eq_of_mul-eq-mul_right l L (n * up g * d) (m * u * down g)
      (omega (arith, ap (λ (t : ℕ). t * d) h.1, ap (λ (t : ℕ). m * down g * t) e)),
)

power : (j l : ℕ) → up (minus j l) * 2 ^ l ≡ 2 ^ j * down (minus j l)
power j l = omega (arith, minus_val 1 j l)

near_at : (f : Format) (x : Float) (s : Bool) (a c m j : ℕ) → 2 ^ (prec f - 1) ≤ m → m < 2 ^ prec f
    → HasValue x s (m * 2 ^ j) (2 ^ low f) → Within (a * 2 ^ low f) (2 ^ j * c) m (2 ^ j * c) → Near f x s a c
near_at f x s a c m j full short v h =
    let l = low f in
    let e = minus j l in
    record {
      m = m;
      e = e;
      value = same_value x s m (2 ^ j) (2 ^ l) (up e) (down e) (pow_pos l) (power j l) v;
      full = full;
      short = short;
      half = to_fraction a c m (2 ^ j) (2 ^ l) (up e) (down e) (pow_pos l) (power j l) h;
    }

-- ---- the bound

two_halves : (p : ℕ) → 2 ≤ p → 2 ^ p ≡ 2 ^ (p - 1) + 2 ^ (p - 1)
two_halves p P = let e : p ≡ suc (p - 1) = omega arith in ap (λ (t : ℕ). 2 ^ t) e ∙ two-pow-succ (p - 1)

halve : (q h k j : ℕ) → q ≡ h + h → j ≡ k + k → q * k ≡ h * j
halve q h k j d e = omega (arith, ap (λ (t : ℕ). t * k) d, ap (λ (t : ℕ). h * t) e)

-- q × k is h × j, and k is half of j
widen : (n c q h k j : ℕ) → q * k ≡ h * j → k ≤ j → Within n (c * k) q (c * k) → Within n (j * c) h (j * c)
widen n c q h k j e l w = let x : c * (q * k) ≡ c * (h * j) = ap (λ (t : ℕ). c * t) e in let y : k * c ≤ j * c = mul-le-mul_right c l in omega arith

-- at the next power of two, the digits are those of half as many units of twice the size
settle : (f : Format) (x : Float) (s : Bool) (a c q k : ℕ) → HasValue x s (q * 2 ^ k) (2 ^ low f) → 2 ^ (prec f - 1) ≤ q
    → Within (a * 2 ^ low f) (c * 2 ^ k) q (c * 2 ^ k) → (q ≡ 2 ^ prec f) ⊎ (q < 2 ^ prec f) → Near f x s a c
settle f x s a c q k v lo w (inl e) =
    let h = 2 ^ (prec f - 1) in
    let d : q * 2 ^ k ≡ h * 2 ^ suc k = halve q h (2 ^ k) (2 ^ suc k) (e ∙ two_halves (prec f) (two f)) (two-pow-succ k) in
    near_at f x s a c h (suc k) (le_refl h) (pow-lt (one_less (prec f) (two f))) (subst (λ (t : ℕ). HasValue x s t (2 ^ low f)) d v)
    (widen (a * 2 ^ low f) c q h (2 ^ k) (2 ^ suc k) d (pow_mono (le-suc k)) w)
  where
    one_less : (p : ℕ) → 2 ≤ p → p - 1 < p
    one_less p P = omega arith
settle f x s a c q k v lo w (inr h) = near_at f x s a c q k lo h v (widen (a * 2 ^ low f) c q q (2 ^ k) (2 ^ k) refl (le_refl (2 ^ k)) w)

module _ (f : Format) (s : Bool) (a c : ℕ) (C : 0 < c) (enough : prec f ≤ size (a * 2 ^ low f / c)) (under : grid f a c < overflow f) where
  pub round_near : Near f (round f s a c) s a c
  round_near =
      let p = prec f in
      let n = a * 2 ^ low f in
      let k = drop p n c in
      let q = kept p n c in
      subst (λ (x : Float). Near f x s a c) (sym (round_is f s a c))
      (settle f (units f s q k) s a c q k (units_val f s q k under) (kept_least p n c (two f) enough) (closest_half n (c * 2 ^ k) (mul-pos C (pow_pos k)))
      (eq-or-lt_of_le (kept_most p n c (two f) enough)))
