-- How far one line's price lies above another's at a rational load, times its denominator: B × D + R × neg_part, where B and R are the differences of the
-- bases and of the rates. Where R is above 0 it only rises from negative to positive. That is the one fact with products that envelopes rest on.
use Rattle.std.specs.Prelude.{◌≡◌, ℕ, suc, ◌+◌, ◌*◌, ◌≤◌, ◌<◌, Bool, ◌⊎◌, T, ℤ, pos, negsuc, neg_ℤ, ◌+ℤ◌, ◌-ℤ◌, ◌*ℤ◌}
use Rattle.std.proofs.Common.{sym, subst, mul-le-mul_left, mul-le-mul_right, le_of_mul-le-mul_right, lt_of_mul-lt-mul_right, arith}
use Rattle.std.specs.Int.Signed.{le_z, lt_z}
use Rattle.integers.specs.Parts.{pos_part, neg_part, int_rules, parts_lt, no_le_parts, le_total}
use Rattle.integers.specs.Ring.{Ex, var, nat, neg, ◌:+◌, ◌:-◌, ◌:*◌, by_eq, by_le, by_lt, from_le, from_lt, same_le}
use Rattle.offers.specs.Offers.{RationalLoad, denominator}

-- x is at y or left of it
abbrev pub at_or_left : RationalLoad → RationalLoad → Bool
at_or_left x y = le_z (x.numerator *ℤ denominator y) (y.numerator *ℤ denominator x)

abbrev pub lead : ℤ → ℤ → RationalLoad → ℤ
lead B R x = B *ℤ denominator x +ℤ R *ℤ x.numerator

-- ---- the core, over naturals: B is p − n, the two numerators are p₁ − n₁ and p₂ − n₂

module _ (p n r p₁ n₁ p₂ n₂ d₁ d₂ : ℕ) where
  core : 0 < d₁ → p₁ * d₂ + n₂ * d₁ ≤ p₂ * d₁ + n₁ * d₂ → n * d₁ + r * n₁ ≤ p * d₁ + r * p₁ → n * d₂ + r * n₂ ≤ p * d₂ + r * p₂
  core a h k =
      le_of_mul-le-mul_right {k = d₁} (omega (arith, mul-le-mul_right d₂ k, mul-le-mul_left r h)) a

  core_strict : 0 < r → p₁ * d₂ + n₂ * d₁ < p₂ * d₁ + n₁ * d₂ → n * d₁ + r * n₁ ≤ p * d₁ + r * p₁ → n * d₂ + r * n₂ < p * d₂ + r * p₂
  core_strict a h k =
      lt_of_mul-lt-mul_right d₁ (omega (arith, mul-le-mul_right d₂ k, mul-le-mul_left r h))

-- ---- its sign in naturals, and the order of points

-- what speaks for the lead, and against it
abbrev gain : ℤ → ℕ → RationalLoad → ℕ
gain B r x = pos_part B * suc x.above + r * pos_part x.numerator

abbrev loss : ℤ → ℕ → RationalLoad → ℕ
loss B r x = neg_part B * suc x.above + r * neg_part x.numerator

abbrev quoted : ℤ → ℕ → RationalLoad → Ex
quoted B r x = var B :* nat (suc x.above) :+ nat r :* var x.numerator

module _ (B : ℤ) (r : ℕ) (x : RationalLoad) where
  from_above : T (le_z (pos 0) (lead B (pos r) x)) → loss B r x ≤ gain B r x
  from_above t = omega (arith, from_le (nat 0) (quoted B r x) t)

  to_above : loss B r x ≤ gain B r x → T (le_z (pos 0) (lead B (pos r) x))
  to_above h = by_le (nat 0) (quoted B r x) (omega arith)

  to_strict : loss B r x < gain B r x → T (lt_z (pos 0) (lead B (pos r) x))
  to_strict h = by_lt (nat 0) (quoted B r x) (omega arith)

  from_below : T (le_z (lead B (pos r) x) (pos 0)) → gain B r x ≤ loss B r x
  from_below t = omega (arith, from_le (quoted B r x) (nat 0) t)

  to_below : gain B r x ≤ loss B r x → T (le_z (lead B (pos r) x) (pos 0))
  to_below h = by_le (quoted B r x) (nat 0) (omega arith)

module _ (x y : RationalLoad) where
  order : T (at_or_left x y) → pos_part x.numerator * suc y.above + neg_part y.numerator * suc x.above ≤ pos_part y.numerator * suc x.above + neg_part x.numerator *
      suc y.above
  order t = omega (arith, from_le (var x.numerator :* nat (suc y.above)) (var y.numerator :* nat (suc x.above)) t)

  order_strict : ¬ T (at_or_left y x) → pos_part x.numerator * suc y.above + neg_part y.numerator * suc x.above < pos_part y.numerator * suc x.above + neg_part
      x.numerator * suc y.above
  order_strict f =
      omega (
        arith,
        from_lt (var x.numerator :* nat (suc y.above)) (var y.numerator :* nat (suc x.above))
            (parts_lt (x.numerator *ℤ denominator y) (y.numerator *ℤ denominator x)
            (no_le_parts (y.numerator *ℤ denominator x) (x.numerator *ℤ denominator y) f)),
      )

-- ---- the core, over integers

pub rises : (B R : ℤ) (x y : RationalLoad) → T (lt_z (pos 0) R) → T (at_or_left x y) → T (le_z (pos 0) (lead B R x)) → T (le_z (pos 0) (lead B R y))
rises B (negsuc r) x y a h k = absurd a
rises B (pos r) x y a h k =
    to_above B r y (core (pos_part B) (neg_part B) r (pos_part x.numerator) (neg_part x.numerator) (pos_part y.numerator) (neg_part y.numerator) (suc x.above) (suc y.above)
    (omega arith) (order x y h) (from_above B r x k))

pub rises_strictly : (B R : ℤ) (x y : RationalLoad) → T (lt_z (pos 0) R) → ¬ T (at_or_left y x) → T (le_z (pos 0) (lead B R x)) → T (lt_z (pos 0) (lead B R y))
rises_strictly B (negsuc r) x y a h k = absurd a
rises_strictly B (pos r) x y a h k =
    to_strict B r y (core_strict (pos_part B) (neg_part B) r (pos_part x.numerator) (neg_part x.numerator) (pos_part y.numerator) (neg_part y.numerator) (suc x.above) (suc y.above)
    (omega (arith, int_rules)) (order_strict x y h) (from_above B r x k))

-- the same from right to left: the core with positive and negative parts, and the points, exchanged
pub falls : (B R : ℤ) (x y : RationalLoad) → T (lt_z (pos 0) R) → T (at_or_left x y) → T (le_z (lead B R y) (pos 0)) → T (le_z (lead B R x) (pos 0))
falls B (negsuc r) x y a h k = absurd a
falls B (pos r) x y a h k =
    to_below B r x (core (neg_part B) (pos_part B) r (neg_part y.numerator) (pos_part y.numerator) (neg_part x.numerator) (pos_part x.numerator) (suc y.above) (suc x.above)
    (omega arith) (omega (arith, order x y h)) (from_below B r y k))

-- ---- x is at or left of y exactly where the line with base −N of x and rate D of x is not below 0 at y

pub order_as_lead : (x y : RationalLoad) → at_or_left x y ≡ le_z (pos 0) (lead (neg_ℤ x.numerator) (denominator x) y)
order_as_lead x y =
    let m = var x.numerator in
    let n = var y.numerator in
    let d = nat (suc x.above) in
    let e = nat (suc y.above) in
    same_le (x.numerator *ℤ denominator y) (y.numerator *ℤ denominator x) (pos 0) (lead (neg_ℤ x.numerator) (denominator x) y)
    (by_eq (n :* d :- m :* e) (neg m :* e :+ d :* n :- nat 0) (omega arith))

pub denominator_above : (x : RationalLoad) → T (lt_z (pos 0) (denominator x))
denominator_above x = parts_lt (pos 0) (denominator x) (omega arith)

-- so the points are in a preorder by the same core
pub order_trans : (x y z : RationalLoad) → T (at_or_left x y) → T (at_or_left y z) → T (at_or_left x z)
order_trans x y z h k =
    subst T (sym (order_as_lead x z)) (rises (neg_ℤ x.numerator) (denominator x) y z (denominator_above x) k (subst T (order_as_lead x y) h))

pub order_total : (x y : RationalLoad) → T (at_or_left x y) ⊎ T (at_or_left y x)
order_total x y = le_total (x.numerator *ℤ denominator y) (y.numerator *ℤ denominator x)

-- ---- points left of, right of and between others

abbrev pub over : ℤ → ℕ → RationalLoad
over n a = record { numerator = n; above = a }

-- (N₁ + N₂) / (D₁ + D₂)
abbrev pub mediant : RationalLoad → RationalLoad → RationalLoad
mediant x z = over (x.numerator +ℤ z.numerator) (suc (x.above + z.above))

pub less_one : (x : RationalLoad) → ¬ T (at_or_left x (over (x.numerator -ℤ pos 1) x.above))
less_one x t =
    let n = var x.numerator in
    let d = nat (suc x.above) in
    omega (arith, from_le (n :* d) ((n :- nat 1) :* d) t)

pub plus_one : (x : RationalLoad) → ¬ T (at_or_left (over (x.numerator +ℤ pos 1) x.above) x)
plus_one x t =
    let n = var x.numerator in
    let d = nat (suc x.above) in
    omega (arith, from_le ((n :+ nat 1) :* d) (n :* d) t)

pub mediant_right : (x z : RationalLoad) → ¬ T (at_or_left z x) → ¬ T (at_or_left (mediant x z) x)
mediant_right x z f t =
    let m = var x.numerator in
    let n = var z.numerator in
    omega (arith, order_strict x z f, from_le ((m :+ n) :* nat (suc x.above)) (m :* nat (suc (mediant x z).above)) t)

pub mediant_left : (x z : RationalLoad) → ¬ T (at_or_left z x) → ¬ T (at_or_left z (mediant x z))
mediant_left x z f t =
    let m = var x.numerator in
    let n = var z.numerator in
    omega (arith, order_strict x z f, from_le (n :* nat (suc (mediant x z).above)) ((m :+ n) :* nat (suc z.above)) t)
