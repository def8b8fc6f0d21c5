-- A double is m × 2 ^ e with 2 ^ 52 ≤ |m| < 2 ^ 53 in one way, so the half unit holds of every way to write it.
use Rattle.std.specs.Prelude.{ℕ, zero, suc, ◌+◌, ◌*◌, ◌^◌, ◌≤◌, ◌<◌, ◌≡◌, refl, ℤ, pos, negsuc, nat_abs, Float}
use Rattle.std.proofs.Common.{sym, ap, ◌∙◌, subst, true≢false, mul-one, one-mul, mul-le-mul, arith, pow-add, pow_pos}
use Rattle.std.proofs.lemmas.Bool.{false≢true}
use Rattle.std.proofs.Math.Nat.{eq_of_mul-eq-mul_right, two-pow-succ}
use Rattle.std.specs.Float.{nan, inf, fin}
use Rattle.std.specs.Float.Ieee.{up, down}
use Rattle.std.specs.Float.Ieee.Fits.{down_pos}
use Rattle.marks.specs.Quotient.{negative, Is, Full, WithinHalf, HalfUnit}

-- ---- 2 ^ e / 2 ^ g, times what makes it whole

lift : ℤ → ℤ → ℕ
lift (pos a) (pos b) = a
lift (pos a) (negsuc b) = a + suc b
lift (negsuc a) (pos b) = 0
lift (negsuc a) (negsuc b) = suc b

lift_is : (e g : ℤ) → up e * down g ≡ 2 ^ lift e g
unfolding lift
lift_is (pos a) (pos b) = mul-one (2 ^ a)
lift_is (pos a) (negsuc b) = sym (pow-add 2 a (suc b))
lift_is (negsuc a) (pos b) = refl
lift_is (negsuc a) (negsuc b) = one-mul (2 ^ suc b)

same_lift : (e g : ℤ) → lift e g ≡ lift g e → e ≡ g
unfolding lift
same_lift (pos a) (pos b) h = ap pos h
same_lift (pos a) (negsuc b) h = let f : ⊥ = omega arith in absurd f
same_lift (negsuc a) (pos b) h = let f : ⊥ = omega arith in absurd f
same_lift (negsuc a) (negsuc b) h = let k : a ≡ b = omega arith in ap negsuc k

-- ---- all digits

too_long : (t m n p : ℕ) → t ≤ n → m < t + t → 0 < p → m * 1 ≡ n * (p + p) → ⊥
too_long t m n p h k q e = omega (arith, mul-le-mul h q)

same_digits : (t m n i j : ℕ) → t ≤ m → m < t + t → t ≤ n → n < t + t → m * 2 ^ i ≡ n * 2 ^ j → (m ≡ n) × (i ≡ j)
same_digits t m n zero zero a b c d e = (omega arith, refl)
same_digits t m n zero (suc j) a b c d e = absurd (too_long t m n (2 ^ j) c b (pow_pos j) (subst (λ (p : ℕ). m * 1 ≡ n * p) (two-pow-succ j) e))
same_digits t m n (suc i) zero a b c d e = absurd (too_long t n m (2 ^ i) a d (pow_pos i) (subst (λ (p : ℕ). n * 1 ≡ m * p) (two-pow-succ i) (sym e)))
same_digits t m n (suc i) (suc j) a b c d e =
    let r = same_digits t m n i j a b c d (halves (2 ^ i) (2 ^ j) (subst (λ (p : ℕ). m * p ≡ n * (2 ^ j + 2 ^ j)) (two-pow-succ i)
    (subst (λ (p : ℕ). m * 2 ^ suc i ≡ n * p) (two-pow-succ j) e))) in
    (r.0, ap suc r.1)
  where
    halves : (p q : ℕ) → m * (p + p) ≡ n * (q + q) → m * p ≡ n * q
    halves p q h = omega arith

same_sign : (m n : ℤ) → negative m ≡ negative n → nat_abs m ≡ nat_abs n → m ≡ n
same_sign (pos a) (pos b) s h = ap pos h
same_sign (pos a) (negsuc b) s h = absurd (false≢true s)
same_sign (negsuc a) (pos b) s h = absurd (true≢false s)
same_sign (negsuc a) (negsuc b) s h = let k : a ≡ b = omega arith in ap negsuc k

cancel : (k m n u v d b g : ℕ) → 0 < g → k * d ≡ m * u * g → k * b ≡ n * v * g → m * (u * b) ≡ n * (v * d)
cancel k m n u v d b g G e f = eq_of_mul-eq-mul_right g G (m * (u * b)) (n * (v * d)) (omega (arith, ap (λ (t : ℕ). t * b) e, ap (λ (t : ℕ). t * d) f))

pub written_once : (x : Float) (m e n g : ℤ) → Is x m e → Full m → Is x n g → Full n → (m ≡ n) × (e ≡ g)
written_once nan m e n g v a w b = absurd v
written_once (inf t) m e n g v a w b = absurd v
written_once (fin t k h) m e n g v a w b =
    let i : nat_abs m * (up e * down g) ≡ nat_abs n * (up g * down e) =
    cancel (k * up h) (nat_abs m) (nat_abs n) (up e) (up g) (down e) (down g) (down h) (down_pos h) v.1 w.1 in
    let j : nat_abs m * 2 ^ lift e g ≡ nat_abs n * 2 ^ lift g e = rw (← lift_is e g, ← lift_is g e) i in
    let r = same_digits (2 ^ 52) (nat_abs m) (nat_abs n) (lift e g) (lift g e) a.0 a.1 b.0 b.1 j in
    (same_sign m n (sym v.0 ∙ w.0) r.0, same_lift e g r.1)

pub half_unit_always : (n d : ℤ) (x : Float) → HalfUnit n d x → (m e : ℤ) → Is x m e → Full m → WithinHalf n d m e
half_unit_always n d x h m e v f =
    let r = written_once x h.m h.e m e h.value h.digits v f in
    subst (λ (k : ℤ). WithinHalf n d k e) r.0 (subst (λ (k : ℤ). WithinHalf n d h.m k) r.1 h.near)
