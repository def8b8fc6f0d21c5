-- Linear reasoning on ℤ. Each integer has a positive and a negative part in ℕ, one of them 0, and every order or equation of integers is
-- one of their parts. `omega (arith, int_rules)` so proves linear facts with integers as its unknowns, from and to `T (le_z a b)`,
-- `T (not (le_z a b))`, `le_z a b ≡ true`, `le_z a b ≡ false`, the same of `lt_z`, `a ≤ℤ b`, `a <ℤ b`, `a ≡ b` and
-- `T (le_z a b && le_z b a)`, and to `¬ T (le_z a b)` and `a ≢ b`.
-- By hand go into its list: `no-le-parts a b h` for `h : ¬ T (le_z a b)`, `ne-parts a b h` for `h : a ≢ b`, `range-parts l z h t` for a range, and
-- `add_parts a b`, `sub_parts a b`, `neg-parts a` where a sum, difference or negation, else one unknown, is to be taken apart. Products: Ring.
-- Examples at the end.
use Rattle.std.specs.Prelude.{◌≡◌, refl, ◌≢◌, ◌⊎◌, ◌↔◌, Bool, true, false, not, cond, ◌&&◌, ℕ, zero, suc, ◌+◌, ◌*◌, ◌-◌, ◌≤◌, ◌<◌, T, ltb, ℤ, pos, negsuc, neg_ℤ, nat_abs, ◌+ℤ◌, ◌-ℤ◌, ◌*ℤ◌, ◌≤ℤ◌, ◌<ℤ◌}
use Rattle.std.proofs.Common.{sym, ap, ap₂, inl, inr, arith, leb→le, le→leb, ltb→lt, lt→ltb, nltb→le, T_not}
use Rattle.std.proofs.Math.Dec.{nleb→lt, not_T}
use Rattle.std.proofs.Math.IntN.{sub_ℕ}
use Rattle.std.specs.Int.Signed.{le_z, lt_z, mag}
use Rattle.lists.specs.Bools.{passed, failed, is_true, is_false, either, and_both, and_left, and_right}
use Rattle.integers.specs.Equal.{equal}

-- the positive and the negative part: z is pos_part z − neg_part z
abbrev pub pos_part : ℤ → ℕ
pos_part (pos n) = n
pos_part (negsuc n) = 0

abbrev pub neg_part : ℤ → ℕ
neg_part (pos n) = 0
neg_part (negsuc n) = suc n

-- ---- operations

pub neg_p : (a : ℤ) → pos_part (neg_ℤ a) ≡ neg_part a
neg_p (pos zero) = refl
neg_p (pos (suc n)) = refl
neg_p (negsuc n) = refl

pub neg_n : (a : ℤ) → neg_part (neg_ℤ a) ≡ pos_part a
neg_n (pos zero) = refl
neg_n (pos (suc n)) = refl
neg_n (negsuc n) = refl

subℕ_parts : (a b : ℕ) → pos_part (sub_ℕ a b) + b ≡ neg_part (sub_ℕ a b) + a
subℕ_parts a b = go (ltb a b) (ltb→lt a b) (nltb→le a b)
  where
    go : (c : Bool) → (T c → a < b) → (T (not c) → b ≤ a) →
        pos_part (cond c (negsuc (b - suc a)) (pos (a - b))) + b ≡ neg_part (cond c (negsuc (b - suc a)) (pos (a - b))) + a
    go true f g = let h : a < b = f tt in omega arith
    go false f g = let h : b ≤ a = g tt in omega arith

pub add_parts : (a b : ℤ) → pos_part (a +ℤ b) + (neg_part a + neg_part b) ≡ neg_part (a +ℤ b) + (pos_part a + pos_part b)
add_parts (pos m) (pos n) = omega arith
add_parts (pos m) (negsuc n) = omega (arith, subℕ_parts m (suc n))
add_parts (negsuc m) (pos n) = omega (arith, subℕ_parts n (suc m))
add_parts (negsuc m) (negsuc n) = omega arith

pub neg_parts : (a : ℤ) → pos_part (neg_ℤ a) + pos_part a ≡ neg_part (neg_ℤ a) + neg_part a
neg_parts a = omega (arith, neg_p a, neg_n a)

pub sub_parts : (a b : ℤ) → pos_part (a -ℤ b) + (neg_part a + pos_part b) ≡ neg_part (a -ℤ b) + (pos_part a + neg_part b)
sub_parts a b = omega (arith, add_parts a (neg_ℤ b), neg_p b, neg_n b)

pub mul_p : (a b : ℤ) → pos_part (a *ℤ b) ≡ pos_part a * pos_part b + neg_part a * neg_part b
mul_p (pos m) (pos n) = omega arith
mul_p (pos m) (negsuc n) = omega (arith, neg_p (pos (m * suc n)))
mul_p (negsuc m) (pos n) = omega (arith, neg_p (pos (suc m * n)))
mul_p (negsuc m) (negsuc n) = omega arith

pub mul_n : (a b : ℤ) → neg_part (a *ℤ b) ≡ pos_part a * neg_part b + neg_part a * pos_part b
mul_n (pos m) (pos n) = omega arith
mul_n (pos m) (negsuc n) = omega (arith, neg_n (pos (m * suc n)))
mul_n (negsuc m) (pos n) = omega (arith, neg_n (pos (suc m * n)))
mul_n (negsuc m) (negsuc n) = omega arith

-- ---- sizes

pub nat_abs_parts : (z : ℤ) → nat_abs z ≡ pos_part z + neg_part z
nat_abs_parts (pos n) = omega arith
nat_abs_parts (negsuc n) = omega arith

-- nat_abs is the larger part, so two bounds on z bound it
pub nat_abs_most : (z : ℤ) (n : ℕ) → pos_part z ≤ n → neg_part z ≤ n → nat_abs z ≤ n
nat_abs_most (pos m) n p q = p
nat_abs_most (negsuc m) n p q = q

pub mag_nat_abs : (z : ℤ) → mag z ≤ nat_abs z
mag_nat_abs (pos n) = omega arith
mag_nat_abs (negsuc n) = omega arith

-- ---- the tests, passed

pub le_parts : (a b : ℤ) → T (le_z a b) → pos_part a + neg_part b ≤ pos_part b + neg_part a
le_parts (pos m) (pos n) t = omega (arith, leb→le m n t)
le_parts (pos m) (negsuc n) t = absurd t
le_parts (negsuc m) (pos n) t = omega arith
le_parts (negsuc m) (negsuc n) t = omega (arith, leb→le n m t)

pub parts_le : (a b : ℤ) → pos_part a + neg_part b ≤ pos_part b + neg_part a → T (le_z a b)
parts_le (pos m) (pos n) h = le→leb m n (omega arith)
parts_le (pos m) (negsuc n) h = let e : ⊥ = omega arith in e
parts_le (negsuc m) (pos n) h = tt
parts_le (negsuc m) (negsuc n) h = le→leb n m (omega arith)

pub lt_parts : (a b : ℤ) → T (lt_z a b) → pos_part a + neg_part b < pos_part b + neg_part a
lt_parts (pos m) (pos n) t = omega (arith, ltb→lt m n t)
lt_parts (pos m) (negsuc n) t = absurd t
lt_parts (negsuc m) (pos n) t = omega arith
lt_parts (negsuc m) (negsuc n) t = omega (arith, ltb→lt n m t)

pub parts_lt : (a b : ℤ) → pos_part a + neg_part b < pos_part b + neg_part a → T (lt_z a b)
parts_lt (pos m) (pos n) h = lt→ltb m n (omega arith)
parts_lt (pos m) (negsuc n) h = let e : ⊥ = omega arith in e
parts_lt (negsuc m) (pos n) h = tt
parts_lt (negsuc m) (negsuc n) h = lt→ltb n m (omega arith)

-- ---- the tests, failed: T (not ..) and ¬ T ..

pub nle_parts : (a b : ℤ) → T (not (le_z a b)) → pos_part b + neg_part a < pos_part a + neg_part b
nle_parts (pos m) (pos n) t = omega (arith, nleb→lt m n t)
nle_parts (pos m) (negsuc n) t = omega arith
nle_parts (negsuc m) (pos n) t = absurd t
nle_parts (negsuc m) (negsuc n) t = omega (arith, nleb→lt n m t)

pub nlt_parts : (a b : ℤ) → T (not (lt_z a b)) → pos_part b + neg_part a ≤ pos_part a + neg_part b
nlt_parts (pos m) (pos n) t = omega (arith, nltb→le m n t)
nlt_parts (pos m) (negsuc n) t = omega arith
nlt_parts (negsuc m) (pos n) t = absurd t
nlt_parts (negsuc m) (negsuc n) t = omega (arith, nltb→le n m t)

pub parts_nle : (a b : ℤ) → pos_part b + neg_part a < pos_part a + neg_part b → T (not (le_z a b))
parts_nle a b h = not_T (le_z a b) (λ t. refute (le_parts a b t))
  where
    refute : pos_part a + neg_part b ≤ pos_part b + neg_part a → ⊥
    refute k = omega arith

pub parts_nlt : (a b : ℤ) → pos_part b + neg_part a ≤ pos_part a + neg_part b → T (not (lt_z a b))
parts_nlt a b h = not_T (lt_z a b) (λ t. refute (lt_parts a b t))
  where
    refute : pos_part a + neg_part b < pos_part b + neg_part a → ⊥
    refute k = omega arith

pub no_le_parts : (a b : ℤ) → ¬ T (le_z a b) → pos_part b + neg_part a < pos_part a + neg_part b
no_le_parts a b f = nle_parts a b (not_T (le_z a b) f)

pub no_lt_parts : (a b : ℤ) → ¬ T (lt_z a b) → pos_part b + neg_part a ≤ pos_part a + neg_part b
no_lt_parts a b f = nlt_parts a b (not_T (lt_z a b) f)

pub parts_no_le : (a b : ℤ) → pos_part b + neg_part a < pos_part a + neg_part b → ¬ T (le_z a b)
parts_no_le a b h = T_not (le_z a b) (parts_nle a b h)

pub parts_no_lt : (a b : ℤ) → pos_part b + neg_part a ≤ pos_part a + neg_part b → ¬ T (lt_z a b)
parts_no_lt a b h = T_not (lt_z a b) (parts_nlt a b h)

-- ---- the tests, as equations

pub le_true_parts : (a b : ℤ) → le_z a b ≡ true → pos_part a + neg_part b ≤ pos_part b + neg_part a
le_true_parts a b e = le_parts a b (passed e)

pub lt_true_parts : (a b : ℤ) → lt_z a b ≡ true → pos_part a + neg_part b < pos_part b + neg_part a
lt_true_parts a b e = lt_parts a b (passed e)

pub le_false_parts : (a b : ℤ) → le_z a b ≡ false → pos_part b + neg_part a < pos_part a + neg_part b
le_false_parts a b e = nle_parts a b (failed e)

pub lt_false_parts : (a b : ℤ) → lt_z a b ≡ false → pos_part b + neg_part a ≤ pos_part a + neg_part b
lt_false_parts a b e = nlt_parts a b (failed e)

pub parts_le_true : (a b : ℤ) → pos_part a + neg_part b ≤ pos_part b + neg_part a → le_z a b ≡ true
parts_le_true a b h = is_true (le_z a b) (parts_le a b h)

pub parts_lt_true : (a b : ℤ) → pos_part a + neg_part b < pos_part b + neg_part a → lt_z a b ≡ true
parts_lt_true a b h = is_true (lt_z a b) (parts_lt a b h)

pub parts_le_false : (a b : ℤ) → pos_part b + neg_part a < pos_part a + neg_part b → le_z a b ≡ false
parts_le_false a b h = is_false (le_z a b) (parts_nle a b h)

pub parts_lt_false : (a b : ℤ) → pos_part b + neg_part a ≤ pos_part a + neg_part b → lt_z a b ≡ false
parts_lt_false a b h = is_false (lt_z a b) (parts_nlt a b h)

-- ---- equations of integers

pub eq_parts : (a b : ℤ) → a ≡ b → pos_part a + neg_part b ≡ pos_part b + neg_part a
eq_parts a b e = ap₂ ◌+◌ (ap pos_part e) (sym (ap neg_part e))

pub parts_eq : (a b : ℤ) → pos_part a + neg_part b ≡ pos_part b + neg_part a → a ≡ b
parts_eq (pos m) (pos n) h = let e : m ≡ n = omega arith in ap pos e
parts_eq (pos m) (negsuc n) h = let e : ⊥ = omega arith in absurd e
parts_eq (negsuc m) (pos n) h = let e : ⊥ = omega arith in absurd e
parts_eq (negsuc m) (negsuc n) h = let e : m ≡ n = omega arith in ap negsuc e

pub ne_parts : (a b : ℤ) → a ≢ b → pos_part a + neg_part b ≢ pos_part b + neg_part a
ne_parts a b f e = f (parts_eq a b e)

-- ---- the order as a record of lib.Signed

pub ≤ℤ_parts : (a b : ℤ) → a ≤ℤ b → pos_part a + neg_part b ≤ pos_part b + neg_part a
≤ℤ_parts a b h = le_parts a b h.le

pub <ℤ_parts : (a b : ℤ) → a <ℤ b → pos_part a + neg_part b < pos_part b + neg_part a
<ℤ_parts a b h = lt_parts a b h.lt

pub parts_≤ℤ : (a b : ℤ) → pos_part a + neg_part b ≤ pos_part b + neg_part a → a ≤ℤ b
parts_≤ℤ a b h = record { le = parts_le a b h }

pub parts_<ℤ : (a b : ℤ) → pos_part a + neg_part b < pos_part b + neg_part a → a <ℤ b
parts_<ℤ a b h = record { lt = parts_lt a b h }

-- ---- a range, as `T (le_z low z && le_z z high)`

pub range_low : (l z h : ℤ) → T (le_z l z && le_z z h) → pos_part l + neg_part z ≤ pos_part z + neg_part l
range_low l z h t = le_parts l z (and_left (le_z l z) (le_z z h) t)

pub range_high : (l z h : ℤ) → T (le_z l z && le_z z h) → pos_part z + neg_part h ≤ pos_part h + neg_part z
range_high l z h t = le_parts z h (and_right (le_z l z) (le_z z h) t)

pub range_parts : (l z h : ℤ) → T (le_z l z && le_z z h) → (pos_part l + neg_part z ≤ pos_part z + neg_part l) × (pos_part z + neg_part h ≤ pos_part h + neg_part z)
range_parts l z h t = (range_low l z h t, range_high l z h t)

-- from −(m + 1) to m + 1, as one inequality
pub within_parts : (m : ℕ) (z : ℤ) → T (le_z (negsuc m) z && le_z z (pos (suc m))) → pos_part z + neg_part z ≤ suc m
within_parts m (pos n) t = omega (arith, range_parts (negsuc m) (pos n) (pos (suc m)) t)
within_parts m (negsuc n) t = omega (arith, range_parts (negsuc m) (negsuc n) (pos (suc m)) t)

-- ---- equality as a test, `T (le_z a b && le_z b a)`

pub equal_parts : (a b : ℤ) → T (le_z a b && le_z b a) → pos_part a + neg_part b ≡ pos_part b + neg_part a
equal_parts a b t = omega (arith, range_parts a b a t)

pub parts_equal : (a b : ℤ) → pos_part a + neg_part b ≡ pos_part b + neg_part a → T (le_z a b && le_z b a)
parts_equal a b e = and_both (le_z a b) (le_z b a) (parts_le a b (omega arith)) (parts_le b a (omega arith))

pub unequal_parts : (a b : ℤ) → T (not (le_z a b && le_z b a)) → pos_part a + neg_part b ≢ pos_part b + neg_part a
unequal_parts a b t e = T_not (le_z a b && le_z b a) t (parts_equal a b e)

pub parts_unequal : (a b : ℤ) → pos_part a + neg_part b ≢ pos_part b + neg_part a → T (not (le_z a b && le_z b a))
parts_unequal a b f = not_T (le_z a b && le_z b a) (λ t. f (equal_parts a b t))

pub ruleset int_rules = (
  le_parts,
  parts_le,
  lt_parts,
  parts_lt,
  nle_parts,
  parts_nle,
  nlt_parts,
  parts_nlt,
  le_true_parts,
  parts_le_true,
  lt_true_parts,
  parts_lt_true,
  le_false_parts,
  parts_le_false,
  lt_false_parts,
  parts_lt_false,
  eq_parts,
  parts_eq,
  ≤ℤ_parts,
  <ℤ_parts,
  parts_≤ℤ,
  parts_<ℤ,
  within_parts,
  equal_parts,
  parts_equal,
  unequal_parts,
  parts_unequal,
)

-- what the test of equality says
pub equal_is : (a b : ℤ) → a ≡ b → T (equal a b)
equal_is a b e = parts_equal a b (eq_parts a b e)

pub equal_eq : (a b : ℤ) → T (equal a b) → a ≡ b
equal_eq a b t = parts_eq a b (equal_parts a b t)

pub unequal : (a b : ℤ) → T (not (equal a b)) → a ≢ b
unequal a b t e = T_not (equal a b) t (equal_is a b e)

-- ---- which way it goes

pub le_or_lt : (a b : ℤ) → T (le_z a b) ⊎ T (lt_z b a)
le_or_lt a b = go (either (le_z a b))
  where
    go : T (le_z a b) ⊎ T (not (le_z a b)) → T (le_z a b) ⊎ T (lt_z b a)
    go (inl t) = inl t
    go (inr t) = inr (omega (arith, int_rules))

-- a difference is above 0
pub gap_above : (a b : ℤ) → T (lt_z b a) → T (lt_z (pos 0) (a -ℤ b))
gap_above a b h = omega (arith, int_rules, sub_parts a b)

pub le_total : (a b : ℤ) → T (le_z a b) ⊎ T (le_z b a)
le_total a b = go (le_or_lt a b)
  where
    go : T (le_z a b) ⊎ T (lt_z b a) → T (le_z a b) ⊎ T (le_z b a)
    go (inl t) = inl t
    go (inr t) = inr (omega (arith, int_rules))

pub trichotomy : (a b : ℤ) → T (lt_z a b) ⊎ ((a ≡ b) ⊎ T (lt_z b a))
trichotomy a b = go (le_or_lt a b) (le_or_lt b a)
  where
    go : T (le_z a b) ⊎ T (lt_z b a) → T (le_z b a) ⊎ T (lt_z a b) → T (lt_z a b) ⊎ ((a ≡ b) ⊎ T (lt_z b a))
    go (inl s) (inl t) = inr (inl (omega (arith, int_rules)))
    go (inl s) (inr t) = inl t
    go (inr s) t = inr (inr s)

pub not_le_is_lt : (a b : ℤ) → (¬ T (le_z a b)) ↔ T (lt_z b a)
not_le_is_lt a b = (λ f. parts_lt b a (no_le_parts a b f), λ t. parts_no_le a b (lt_parts b a t))

-- ---- one line each

trans_example : (a b c : ℤ) → T (le_z a b) → T (le_z b c) → T (le_z a c)
trans_example a b c h k = omega (arith, int_rules)

mixed_example : (a b c d : ℤ) → lt_z a b ≡ true → a ≡ c → T (not (lt_z d b)) → ¬ T (le_z d c)
mixed_example a b c d h e k = omega (arith, int_rules)

antisym_example : (a b : ℤ) → a ≤ℤ b → ¬ T (lt_z a b) → a ≡ b
antisym_example a b h k = omega (arith, int_rules, no_lt_parts a b k)

sum_example : (a b c : ℤ) → T (le_z a b) → T (lt_z (a +ℤ c) (pos 3)) → c ≡ b → lt_z (a +ℤ a) (pos 3) ≡ true
sum_example a b c h k e = omega (arith, int_rules, add_parts a c, add_parts a a)

within_example : (z : ℤ) → T (le_z (negsuc 4) z && le_z z (pos 5)) → T (le_z z (pos 7)) × T (not (lt_z z (negsuc 4)))
within_example z r = omega (arith, int_rules)

range_example : (z : ℤ) → T (le_z (pos 1) z && le_z z (pos 9)) → T (le_z z (pos 9)) × T (not (lt_z z (pos 0)))
range_example z r = omega (arith, int_rules, range_parts (pos 1) z (pos 9) r)

closed_example : (m n : ℕ) → T (le_z (pos m) (neg_ℤ (pos 4))) → m ≡ n
closed_example m n h = omega (arith, int_rules)

ne_example : (a b : ℤ) → T (lt_z a b) → a ≢ b
ne_example a b h = omega (arith, int_rules)

ne2_example : (a b : ℤ) → T (le_z a b) → a ≢ b → T (lt_z a b)
ne2_example a b h n = omega (arith, int_rules, ne_parts _ _ n)

equal_example : (a b c : ℤ) → T (le_z a b && le_z b a) → T (not (le_z b c && le_z c b)) → a ≢ c
equal_example a b c h k = omega (arith, int_rules)

unequal_example : (a b c : ℤ) → T (lt_z a b) → le_z c a ≡ true → T (not (le_z b c && le_z c b))
unequal_example a b c h k = omega (arith, int_rules)
