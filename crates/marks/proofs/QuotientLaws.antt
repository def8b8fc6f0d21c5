-- Quotients of integers that are exact as doubles are at most half a unit off, and zero gives +0.
use Rattle.std.specs.Prelude.{ℕ, zero, suc, ◌+◌, ◌-◌, ◌*◌, ◌/◌, ◌^◌, ◌≤◌, ◌<◌, ◌≡◌, refl, ◌≢◌, Bool, true, false, cond, T, eqb, ℤ, pos, negsuc, nat_abs, ◌-ℤ◌, ◌*ℤ◌, Float}
use Rattle.std.proofs.Common.{sym, ap, ◌∙◌, subst, le_refl, le_trans, lt_of_le_of_lt, mul-pos, mul-le-mul, mul-le-mul_right, div-le_self, zero-mul, mul-one, zero-lt-suc, arith, eqb→eq, lit≤, lit<, le→leb, lt→ltb, pow-add, pow_mono}
use Rattle.std.proofs.Math.Nat.{eq_of_mul-eq-mul_right}
use Rattle.std.specs.Int.Signed.{lt_z}
use Rattle.std.proofs.Math.Pow.{pow-lt}
use Rattle.std.specs.Float.{nan, inf, fin, Format, binary32, binary64}
use Rattle.std.specs.Float.Ieee.{prec, emax, low, up, down, unlike, size, round, div, of_int, in_float, fits}
use Rattle.std.specs.Float.Ieee.Digits.{size-le}
use Rattle.std.specs.Float.Ieee.Fits.{down_pos, round-fits, two}
use Rattle.std.specs.Float.Ieee.Exact.{HasValue, round_exact}
use Rattle.std.specs.Float.Ieee.Order.{drop}
use Rattle.std.specs.Float.Ieee.Scale.{round_same, grid, overflow, normal_of_fraction}
use Rattle.std.specs.Float.Ieee.Back.{round_whole, whole_unique}
use Rattle.lists.specs.Bools.{and_left, and_right}
use Rattle.integers.specs.Parts.{pos_part, neg_part, range_parts}
use Rattle.integers.specs.Ring.{var, nat, ◌:-◌, ◌:*◌, parts}
use Rattle.integers.specs.Magnitude.{nat_abs_gap, within_nat_abs, nat_abs_within}
use Rattle.integers.specs.Ranges.{too_low, too_high, in_range_lem}
use Rattle.offers.specs.Offers.{between}
use Rattle.marks.specs.Rounding.{Within, Near, round_near, kept_most}
use Rattle.marks.specs.Quotient.{exact, plus_zero, double, negative, quotient, divisible, Doubled, HalfUnit, Quotient}

-- ---- a quotient of whole numbers up to 2 ^ prec keeps all digits and does not overflow

abbrev IsRoomy : Format → Type 0
IsRoomy f = (prec f - 1 + prec f ≤ low f) × (prec f + low f + 1 < low f + suc (emax f))

room : (f : Format) → IsRoomy f
room binary32 = (lit≤ tt, lit< tt)
room binary64 = (lit≤ tt, lit< tt)

module _ (f : Format) (a c : ℕ) (A : 0 < a) (a-most : a ≤ 2 ^ prec f) (C : 0 < c) (c-most : c ≤ 2 ^ prec f) where
  enough : prec f ≤ size (a * 2 ^ low f / c)
  enough =
      let p = prec f in
      let x : 2 ^ (p - 1) * c ≤ 2 ^ (p - 1 + p) = subst (λ (t : ℕ). 2 ^ (p - 1) * c ≤ t) (sym (pow-add 2 (p - 1) p))
      (mul-le-mul (le_refl (2 ^ (p - 1))) c-most) in
      let y : 1 * 2 ^ low f ≤ a * 2 ^ low f = mul-le-mul_right (2 ^ low f) A in
      normal_of_fraction f a c C (le_trans x (le_trans (pow_mono (room f).0) (omega (arith, y))))

  under : grid f a c < overflow f
  under =
      let p = prec f in
      let n = a * 2 ^ low f in
      let k = drop p n c in
      let w : n < 2 ^ (p + low f + 1) = lt_of_le_of_lt (subst (λ (t : ℕ). n ≤ t) (sym (pow-add 2 p (low f))) (mul-le-mul_right (2 ^ low f) a-most))
      (pow-lt (more p (low f))) in
      let z : size (n / c) ≤ p + low f + 1 = size-le (n / c) (p + low f + 1) (lt_of_le_of_lt (div-le_self n c) w) in
      let g : grid f a c ≤ 2 ^ (p + k) = subst (λ (t : ℕ). grid f a c ≤ t) (sym (pow-add 2 p k)) (mul-le-mul_right (2 ^ k) (kept_most p n c (two f) enough)) in
      lt_of_le_of_lt (le_trans g (pow_mono (together (size (n / c)) p (p + low f + 1) enough z))) (pow-lt (room f).1)
    where
      more : (p l : ℕ) → p + l < p + l + 1
      more p l = omega arith

      together : (z p t : ℕ) → p ≤ z → z ≤ t → p + (z - p) ≤ t
      together z p t h k = omega arith

  pub whole_near : (s : Bool) → Near f (round f s a c) s a c
  whole_near s = round_near f s a c C enough under

-- ---- the operation `div`, on two doubles that are whole numbers, rounds their fraction

cross : (x y u v a c : ℕ) → x * 1 ≡ a * u → y * 1 ≡ c * v → x * v * c ≡ a * (y * u)
cross x y u v a c p q = omega (arith, ap (λ (t : ℕ). t * (v * c)) p, ap (λ (t : ℕ). t * (a * u)) q)

above_zero : (y c v : ℕ) → y * 1 ≡ c * v → 0 < c → 0 < v → 0 < y
above_zero y c v e C D = omega (arith, mul-pos C D)

div_whole : (f : Format) (x y : Float) (s t : Bool) (a c : ℕ) → 0 < c → HasValue x s a 1 → HasValue y t c 1 → div f x y ≡ round f (unlike s t) a c
unfolding div
div_whole f nan y s t a c C v w = elim v [ ]
div_whole f (inf _) y s t a c C v w = elim v [ ]
div_whole f (fin s' m e) nan s t a c C v w = elim w [ ]
div_whole f (fin s' m e) (inf _) s t a c C v w = elim w [ ]
div_whole f (fin s' m e) (fin t' n d) s t a c C v w = go (eqb n 0) (eqb→eq n 0)
  where
    Y : 0 < n * up d
    Y = above_zero (n * up d) c (down d) w.1 C (down_pos d)

    never : n ≡ 0 → ⊥
    never z = let y = Y in omega (arith, ap (λ (t : ℕ). t * up d) z)

    go : (b : Bool) → (T b → n ≡ 0)
        → cond b (cond (eqb m 0) nan (inf (unlike s' t'))) (round f (unlike s' t') (m * up e * down d) (n * up d * down e)) ≡ round f (unlike s t) a c
    go true z = absurd (never (z tt))
    go false z =
        round_same f (unlike s' t') (m * up e * down d) (n * up d * down e) a c (mul-pos Y (down_pos e)) C
        (cross (m * up e) (n * up d) (down e) (down d) a c v.1 w.1)
        ∙ ap (λ (b : Bool). round f (unlike b t') a c) v.0
        ∙ ap (λ (b : Bool). round f (unlike s b) a c) w.0

-- ---- integers as doubles

of_int_value : (z : ℤ) → nat_abs z ≤ 2 ^ 53 → HasValue (of_int binary64 z) (negative z) (nat_abs z) 1
unfolding of_int
of_int_value (pos n) h = round_whole binary64 false n h
of_int_value (negsuc n) h = round_whole binary64 true (suc n) h

pub exact_size : (z : ℤ) → T (exact z) → nat_abs z ≤ 2 ^ 53
exact_size z t = within_nat_abs 9_007_199_254_740_991 z t

pub double_is : (z : ℤ) → T (exact z) → double z ≡ of_int binary64 z
double_is z t = go (exact z) t
  where
    go : (b : Bool) → T b → cond b (of_int binary64 z) plus_zero ≡ of_int binary64 z
    go true u = refl
    go false u = absurd u

pub double_value : (z : ℤ) → T (exact z) → HasValue (double z) (negative z) (nat_abs z) 1
double_value z t = subst (λ (x : Float). HasValue x (negative z) (nat_abs z) 1) (sym (double_is z t)) (of_int_value z (exact_size z t))

pub doubled : (z : ℤ) → Doubled z (double z)
doubled z = record { is = refl; exactly = λ t. subst (λ (k : ℕ). HasValue (double z) (negative z) k 1) (sym (mul-one (nat_abs z))) (double_value z t) }

-- what the cast asks
pub cast_asks : (z : ℤ) → T (exact z) → T (in_float binary64 z)
unfolding in_float
cast_asks (pos n) t = le→leb n (2 ^ 53) (exact_size (pos n) t)
cast_asks (negsuc n) t = lt→ltb n (2 ^ 53) (exact_size (negsuc n) t)

-- as the code tests it
abbrev least : ℤ
least = negsuc 9_007_199_254_740_991

abbrev most : ℤ
most = pos 9_007_199_254_740_992

module _ (z : ℤ) where
  pub is_exact : lt_z z least ≡ false → lt_z most z ≡ false → T (exact z)
  is_exact h k = subst T (sym (in_range_lem least most z h k)) tt

  pub zero_below : lt_z z least ≡ true → double z ≡ plus_zero
  zero_below h = ap (λ (b : Bool). cond b (of_int binary64 z) plus_zero) (too_low least most z h)

  pub zero_above : lt_z most z ≡ true → double z ≡ plus_zero
  zero_above h = ap (λ (b : Bool). cond b (of_int binary64 z) plus_zero) (too_high least most z h)

-- ---- the quotient is the rounded fraction

same_sign : (s : Bool) → unlike s false ≡ s
same_sign true = refl
same_sign false = refl

module _ (n : ℤ) (c : ℕ) (t : T (divisible n (pos c))) where
  exact_dividend : T (exact n)
  exact_dividend = and_left (exact n) (between (pos 1) (pos (2 ^ 53)) (pos c)) t

  divisor_range : (1 ≤ c) × (c ≤ 2 ^ 53)
  divisor_range = omega (arith, range_parts (pos 1) (pos c) (pos (2 ^ 53)) (and_right (exact n) (between (pos 1) (pos (2 ^ 53)) (pos c)) t))

  quotient_rounds : quotient n (pos c) ≡ round binary64 (negative n) (nat_abs n) c
  quotient_rounds =
      div_whole binary64 (double n) (double (pos c)) (negative n) false (nat_abs n) c divisor_range.0
      (double_value n exact_dividend) (double_value (pos c) (nat_abs_within 9_007_199_254_740_991 (pos c) divisor_range.1))
      ∙ ap (λ (s : Bool). round binary64 s (nat_abs n) c) (same_sign (negative n))

-- ---- zero

unscaled : (x : Float) (s : Bool) (c : ℕ) → 0 < c → HasValue x s 0 c → HasValue x s 0 1
unscaled nan s c C v = v
unscaled (inf t) s c C v = v
unscaled (fin t m e) s c C v =
    let h : m * up e * c ≡ 0 * down e = v.1 in
    let k : m * up e ≡ 0 = eq_of_mul-eq-mul_right c C (m * up e) 0 (omega arith) in
    (v.0, omega arith)

round_zero : (c : ℕ) → 0 < c → round binary64 false 0 c ≡ plus_zero
unfolding fits
round_zero c C =
    whole_unique binary64 (round binary64 false 0 c) plus_zero false 0 (round-fits binary64 false 0 c) tt
    (unscaled (round binary64 false 0 c) false c C (round_exact binary64 false 0 c 0 0 C (lit< tt) (lit< tt) (sym (zero-mul c))))
    (refl, refl)

-- ---- the bound, over integers

spread : (z : ℤ) (a b w : ℕ) → pos_part z + b ≡ neg_part z + a → 2 * a ≤ 2 * b + w → 2 * b ≤ 2 * a + w → 2 * nat_abs z ≤ w
spread z a b w e h k = omega (arith, nat_abs_gap z a b e)

positive_half : (a c : ℕ) (x : Float) → Near binary64 x false a c → HalfUnit (pos a) (pos c) x
positive_half a c x r = record {
  m = pos r.m;
  e = r.e;
  value = r.value;
  digits = (r.full, r.short);
  near =
      spread (pos (r.m * up r.e * c) -ℤ pos (a * down r.e)) (r.m * up r.e * c) (a * down r.e) (up r.e * c)
      (omega (arith, parts (nat (r.m * up r.e * c) :- nat (a * down r.e)))) (omega (arith, r.half.1)) (omega (arith, r.half.0));
}

negative_half : (a c : ℕ) (x : Float) (m : ℕ) (e : ℤ) → HasValue x true (m * up e) (down e) → 2 ^ 52 ≤ m → m < 2 ^ 53
    → Within (suc a * down e) (up e * c) m (up e * c) → HalfUnit (negsuc a) (pos c) x
negative_half a c x zero e v lo hi w = let f : ⊥ = omega arith in absurd f
negative_half a c x (suc m) e v lo hi w = record {
  m = negsuc m;
  e = e;
  value = v;
  digits = (lo, hi);
  near =
      spread (negsuc m *ℤ pos (up e) *ℤ pos c -ℤ negsuc a *ℤ pos (down e)) (suc a * down e) (suc m * up e * c) (up e * c)
      (omega (arith, parts (var (negsuc m) :* nat (up e) :* nat c :- var (negsuc a) :* nat (down e)))) (omega (arith, w.0)) (omega (arith, w.1));
}

-- ---- together

module _ (n : ℤ) (c : ℕ) (t : T (divisible n (pos c))) where
  half_unit : n ≢ pos 0 → HalfUnit n (pos c) (quotient n (pos c))
  half_unit ne = subst (λ (x : Float). HalfUnit n (pos c) x) (sym (quotient_rounds n c t)) (go n (exact_size n (exact_dividend n c t)) ne)
    where
      near : (a : ℕ) → suc a ≤ 2 ^ 53 → (s : Bool) → Near binary64 (round binary64 s (suc a) c) s (suc a) c
      near a l s = whole_near binary64 (suc a) c (zero-lt-suc a) l (divisor_range n c t).0 (divisor_range n c t).1 s

      go : (n : ℤ) → nat_abs n ≤ 2 ^ 53 → n ≢ pos 0 → HalfUnit n (pos c) (round binary64 (negative n) (nat_abs n) c)
      go (pos zero) l ne = absurd (ne refl)
      go (pos (suc a)) l ne = positive_half (suc a) c (round binary64 false (suc a) c) (near a l false)
      go (negsuc a) l ne = let r = near a l true in negative_half a c (round binary64 true (suc a) c) r.m r.e r.value r.full r.short r.half

  zero_quotient : n ≡ pos 0 → quotient n (pos c) ≡ plus_zero
  zero_quotient e = quotient_rounds n c t ∙ ap (λ (z : ℤ). round binary64 (negative z) (nat_abs z) c) e ∙ round_zero c (divisor_range n c t).0

pub quotient_is : (n d : ℤ) → Quotient n d (quotient n d)
quotient_is n (pos c) = record { is = refl; zero = zero_quotient n c; half = half_unit n c }
quotient_is n (negsuc c) = record { is = refl; zero = λ t e. absurd (and_right (exact n) false t); half = λ t ne. absurd (and_right (exact n) false t) }
