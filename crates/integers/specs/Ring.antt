-- Sums, differences and products of integers. An expression is quoted (`Ex`), has its value ⟦ e ⟧ in ℤ, and two parts computed as naturals.
-- omega multiplies those parts out by itself. So
--   a ring identity is                  `by-eq e f (omega arith)`,
--   an order of expressions             `by_le e f (omega (arith, from_le c d h, mul-le-mul ..))`, with h : T (le_z ⟦ c ⟧ ⟦ d ⟧),
--   and in a longer linear argument     `omega (arith, int_rules, parts e, parts f)` with each compound expression named once.
-- omega takes at most 64 monomials: state a fact with products for few unknowns, `pos n` for what is not negative.
use Rattle.std.specs.Prelude.{◌≡◌, true, ℕ, suc, ◌+◌, ◌*◌, ◌≤◌, ◌<◌, T, ℤ, pos, neg_ℤ, ◌+ℤ◌, ◌-ℤ◌, ◌*ℤ◌}
use Rattle.std.proofs.Common.{ap, mul-le-mul_left, mul-le-mul_right, le_of_mul-le-mul_right, lt_of_mul-lt-mul_right, arith}
use Rattle.std.specs.Int.Signed.{le_z, lt_z}
use Rattle.lists.specs.Bools.{same_test}
use Rattle.integers.specs.Parts.{pos_part, neg_part, int_rules, neg_p, neg_n, add_parts, sub_parts, mul_p, mul_n, le_parts, lt_parts, parts_le, parts_lt}
use Rattle.integers.specs.Parts.{eq_parts, parts_eq}

infixl 6 ◌:+◌ ◌:-◌
infixl 7 ◌:*◌
-- an integer as an unknown, a natural, and the operations
pub data Ex : Type 0 where
  var : ℤ → Ex
  nat : ℕ → Ex
  neg : Ex → Ex
  ◌:+◌ ◌:-◌ ◌:*◌ : Ex → Ex → Ex

abbrev pub ⟦◌⟧ : Ex → ℤ
⟦ var z ⟧ = z
⟦ nat n ⟧ = pos n
⟦ neg a ⟧ = neg_ℤ ⟦ a ⟧
⟦ a :+ b ⟧ = ⟦ a ⟧ +ℤ ⟦ b ⟧
⟦ a :- b ⟧ = ⟦ a ⟧ -ℤ ⟦ b ⟧
⟦ a :* b ⟧ = ⟦ a ⟧ *ℤ ⟦ b ⟧

abbrev mutual
  pub plus : Ex → ℕ
  plus (var z) = pos_part z
  plus (nat n) = n
  plus (neg a) = minus a
  plus (a :+ b) = plus a + plus b
  plus (a :- b) = plus a + minus b
  plus (a :* b) = plus a * plus b + minus a * minus b

  pub minus : Ex → ℕ
  minus (var z) = neg_part z
  minus (nat n) = 0
  minus (neg a) = plus a
  minus (a :+ b) = minus a + minus b
  minus (a :- b) = minus a + plus b
  minus (a :* b) = plus a * minus b + minus a * plus b

-- (a − a')(b − b') from what the two factors are
product : (a a' A A' b b' B B' : ℕ) → a + A' ≡ a' + A → b + B' ≡ b' + B → (a * b + a' * b') + (A * B' + A' * B) ≡ (a * b' + a' * b) + (A * B + A' * B')
product a a' A A' b b' B B' h k =
    omega (arith, ap (λ (t : ℕ). a * t) k, ap (λ (t : ℕ). a' * t) k, ap (λ (t : ℕ). t * B) h, ap (λ (t : ℕ). t * B') h)

-- the value's parts, and the expression's
pub parts : (e : Ex) → pos_part ⟦ e ⟧ + minus e ≡ neg_part ⟦ e ⟧ + plus e
parts (var z) = omega arith
parts (nat n) = omega arith
parts (neg a) = omega (arith, parts a, neg_p ⟦ a ⟧, neg_n ⟦ a ⟧)
parts (a :+ b) = omega (arith, parts a, parts b, add_parts ⟦ a ⟧ ⟦ b ⟧)
parts (a :- b) = omega (arith, parts a, parts b, sub_parts ⟦ a ⟧ ⟦ b ⟧)
parts (a :* b) = omega (
  arith,
  mul_p ⟦ a ⟧ ⟦ b ⟧,
  mul_n ⟦ a ⟧ ⟦ b ⟧,
  product (pos_part ⟦ a ⟧) (neg_part ⟦ a ⟧) (plus a) (minus a) (pos_part ⟦ b ⟧) (neg_part ⟦ b ⟧) (plus b) (minus b) (parts a) (parts b),
)

-- ---- proving

pub by_eq : (e f : Ex) → plus e + minus f ≡ plus f + minus e → ⟦ e ⟧ ≡ ⟦ f ⟧
by_eq e f h = parts_eq ⟦ e ⟧ ⟦ f ⟧ (omega (arith, parts e, parts f))

pub by_le : (e f : Ex) → plus e + minus f ≤ plus f + minus e → T (le_z ⟦ e ⟧ ⟦ f ⟧)
by_le e f h = parts_le ⟦ e ⟧ ⟦ f ⟧ (omega (arith, parts e, parts f))

pub by_lt : (e f : Ex) → plus e + minus f < plus f + minus e → T (lt_z ⟦ e ⟧ ⟦ f ⟧)
by_lt e f h = parts_lt ⟦ e ⟧ ⟦ f ⟧ (omega (arith, parts e, parts f))

-- ---- reading

pub from_eq : (e f : Ex) → ⟦ e ⟧ ≡ ⟦ f ⟧ → plus e + minus f ≡ plus f + minus e
from_eq e f h = let k : pos_part ⟦ e ⟧ + neg_part ⟦ f ⟧ ≡ pos_part ⟦ f ⟧ + neg_part ⟦ e ⟧ = eq_parts ⟦ e ⟧ ⟦ f ⟧ h in omega (arith, parts e, parts f)

pub from_le : (e f : Ex) → T (le_z ⟦ e ⟧ ⟦ f ⟧) → plus e + minus f ≤ plus f + minus e
from_le e f h = omega (arith, le_parts ⟦ e ⟧ ⟦ f ⟧ h, parts e, parts f)

pub from_lt : (e f : Ex) → T (lt_z ⟦ e ⟧ ⟦ f ⟧) → plus e + minus f < plus f + minus e
from_lt e f h = omega (arith, lt_parts ⟦ e ⟧ ⟦ f ⟧ h, parts e, parts f)

-- ---- laws that lib.IntN lacks

pub *ℤ_assoc : (a b c : ℤ) → (a *ℤ b) *ℤ c ≡ a *ℤ (b *ℤ c)
*ℤ_assoc a b c = by_eq (var a :* var b :* var c) (var a :* (var b :* var c)) (omega arith)

pub *ℤ_distrib : (a b c : ℤ) → (a +ℤ b) *ℤ c ≡ a *ℤ c +ℤ b *ℤ c
*ℤ_distrib a b c = by_eq ((var a :+ var b) :* var c) (var a :* var c :+ var b :* var c) (omega arith)

-- comparisons of equal differences are one test
pub same_le : (a b c d : ℤ) → b -ℤ a ≡ d -ℤ c → le_z a b ≡ le_z c d
same_le a b c d e = same_test (le_z a b) (le_z c d) (λ h. omega (arith, int_rules, k)) (λ h. omega (arith, int_rules, k))
  where
    k : (pos_part b + neg_part a) + (neg_part d + pos_part c) ≡ (neg_part b + pos_part a) + (pos_part d + neg_part c)
    k = omega (arith, from_eq (var b :- var a) (var d :- var c) e)

-- ---- order and products

pub mul_le : (n : ℕ) (a b : ℤ) → T (le_z a b) → T (le_z (a *ℤ pos n) (b *ℤ pos n))
mul_le n a b h = by_le (var a :* nat n) (var b :* nat n) (omega (arith, mul-le-mul_right n (le_parts a b h)))

pub cancel_le : (n : ℕ) (a b : ℤ) → T (le_z (a *ℤ pos (suc n)) (b *ℤ pos (suc n))) → T (le_z a b)
cancel_le n a b h = parts_le a b (le_of_mul-le-mul_right {k = suc n} (omega (arith, from_le (var a :* nat (suc n)) (var b :* nat (suc n)) h)) (omega arith))

pub mul_lt : (n : ℕ) (a b : ℤ) → T (lt_z a b) → T (lt_z (a *ℤ pos (suc n)) (b *ℤ pos (suc n)))
mul_lt n a b h = by_lt (var a :* nat (suc n)) (var b :* nat (suc n)) (omega (arith, mul-le-mul_right (suc n) (lt_parts a b h)))

pub cancel_lt : (n : ℕ) (a b : ℤ) → T (lt_z (a *ℤ pos n) (b *ℤ pos n)) → T (lt_z a b)
cancel_lt n a b h = parts_lt a b (lt_of_mul-lt-mul_right n (omega (arith, from_lt (var a :* nat n) (var b :* nat n) h)))

-- ---- one line each

square_example : (a b : ℤ) → (a +ℤ b) *ℤ (a -ℤ b) ≡ a *ℤ a -ℤ b *ℤ b
square_example a b = by_eq ((var a :+ var b) :* (var a :- var b)) (var a :* var a :- var b :* var b) (omega arith)

-- the products are unknowns here
linear_example : (a b c d : ℤ) → T (le_z (a *ℤ b +ℤ c) d) → T (lt_z (pos 0) c) → T (lt_z (b *ℤ a) d)
linear_example a b c d h k = by_lt (var b :* var a) (var d) (omega (arith, int_rules, from_le (var a :* var b :+ var c) (var d) h))

-- the same with the compound expressions named
named_example : (a b c d : ℤ) → T (le_z (a *ℤ b +ℤ c) d) → T (lt_z (pos 0) c) → lt_z (b *ℤ a) d ≡ true
named_example a b c d h k = omega (arith, int_rules, parts (var a :* var b :+ var c), parts (var b :* var a))

-- a hypothesis times a factor
factor_example : (a b : ℤ) (n : ℕ) → T (le_z a b) → T (le_z (a *ℤ pos n -ℤ pos 5) (b *ℤ pos n))
factor_example a b n h = by_le (var a :* nat n :- nat 5) (var b :* nat n) (omega (arith, mul-le-mul_left n (le_parts a b h)))
