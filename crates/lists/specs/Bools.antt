-- Tests that compute: what a passed and a failed one says, several tests together, and a choice by a test.
use Rattle.std.specs.Prelude.{◌≡◌, refl, ◌↔◌, ◌⊎◌, Bool, true, false, not, ◌&&◌, ◌||◌, cond, T}
use Rattle.std.proofs.Common.{sym, subst, ◌∙◌, inl, inr, ⊎_elim, true≢false}

-- ---- one test

pub passed : {b : Bool} → b ≡ true → T b
passed e = subst T (sym e) tt

pub failed : {b : Bool} → b ≡ false → T (not b)
failed e = subst (λ (x : Bool). T (not x)) (sym e) tt

pub is_true : (b : Bool) → T b → b ≡ true
is_true true t = refl
is_true false t = absurd t

pub is_false : (b : Bool) → T (not b) → b ≡ false
is_false true t = absurd t
is_false false t = refl

-- what a second test says, where the first is the same and came out so
pub said : {b c : Bool} → b ≡ c → b ≡ true → T c
said e t = passed (sym e ∙ t)

pub denied : {b c : Bool} → b ≡ c → b ≡ false → T (not c)
denied e t = failed (sym e ∙ t)

pub never : {b : Bool} → b ≡ true → b ≡ false → ⊥
never p q = true≢false (sym p ∙ q)

pub refuted : {b c : Bool} → b ≡ c → b ≡ false → ¬ T c
refuted {c} e d t = never (e ∙ is_true c t) d

-- what the first comes to, by what the second says
pub to_true : {b c : Bool} → b ≡ c → T c → b ≡ true
to_true {c} e t = e ∙ is_true c t

pub to_false : {b c : Bool} → b ≡ c → ¬ T c → b ≡ false
to_false {b = false} e f = refl
to_false {b = true} {c = true} e f = absurd (f tt)
to_false {b = true} {c = false} e f = e

pub either : (b : Bool) → T b ⊎ T (not b)
either true = inl tt
either false = inr tt

pub not_not : (b : Bool) → T (not (not b)) → T b
not_not false t = elim t [ ]
not_not true t = tt

pub twice : (b : Bool) → T b → T (not (not b))
twice false t = elim t [ ]
twice true t = tt

-- a test that is not refused passes
pub not_refused : (b : Bool) → ¬ ¬ T b → T b
not_refused true h = tt
not_refused false h = absurd (h (λ t. t))

pub not_failed : (b : Bool) → ¬ T (not b) → T b
not_failed true h = tt
not_failed false h = absurd (h tt)

-- two tests that pass together are one
pub same_test : (b c : Bool) → (T b → T c) → (T c → T b) → b ≡ c
same_test true true f g = refl
same_test true false f g = absurd (f tt)
same_test false true f g = absurd (g tt)
same_test false false f g = refl

-- ---- two tests

pub and_both : (a b : Bool) → T a → T b → T (a && b)
and_both false b p q = elim p [ ]
and_both true b p q = q

pub and_left : (a b : Bool) → T (a && b) → T a
and_left false b t = elim t [ ]
and_left true b t = tt

pub and_right : (a b : Bool) → T (a && b) → T b
and_right false b t = elim t [ ]
and_right true b t = t

pub and_is : (a b : Bool) → a ≡ true → b ≡ true → (a && b) ≡ true
and_is a b e f = rw (e, f)

pub not_first : (a b : Bool) → a ≡ false → (a && b) ≡ false
not_first a b e = rw e

pub not_second : (a b : Bool) → b ≡ false → (a && b) ≡ false
not_second true b e = e
not_second false b e = refl

-- a && c as code makes it: c where a passes, and a itself where it fails; b is what a says
pub first_passes : {a b c r : Bool} → a ≡ b → a ≡ true → r ≡ c → r ≡ b && c
first_passes p t q = rw (sym p ∙ t) q

pub first_fails : {a b : Bool} (c : Bool) → a ≡ b → a ≡ false → a ≡ b && c
first_fails c p f = rw (sym p ∙ f) f

pub or_left : (a b : Bool) → T a → T (a || b)
or_left false b t = elim t [ ]
or_left true b t = tt

pub or_right : (a b : Bool) → T b → T (a || b)
or_right true b t = tt
or_right false b t = t

pub or_cases : (a b : Bool) → T (a || b) → T a ⊎ T b
or_cases true b t = inl tt
or_cases false b t = inr t

pub or_exactly : (a b : Bool) → T (a || b) ↔ (T a ⊎ T b)
or_exactly a b = (or_cases a b, ⊎_elim (or_left a b) (or_right a b))

pub or_no : (a b : Bool) → ¬ T a → ¬ T b → ¬ T (a || b)
or_no true b p q t = p t
or_no false b p q t = q t

pub neither : (a b : Bool) → T (not (a || b)) → T (not a) × T (not b)
neither true b t = elim t [ ]
neither false b t = (tt, t)

pub not_either : (a b : Bool) → T (not a) → T (not b) → T (not (a || b))
not_either true b s t = elim s [ ]
not_either false b s t = t

-- ---- three tests

-- (x && y) && z as code makes it, a test at a time: a and b are what the first two say, e the third
pub first_of_three : {a x : Bool} (y z : Bool) → a ≡ x → a ≡ false → false ≡ (x && y) && z
first_of_three y z p e = rw (sym p ∙ e)

pub second_of_three : {a b x y : Bool} (z : Bool) → a ≡ x → b ≡ y → a ≡ true → b ≡ false → false ≡ (x && y) && z
second_of_three z p q d e = rw (sym p ∙ d, sym q ∙ e)

pub third_of_three : {a b x y e z : Bool} → a ≡ x → b ≡ y → a ≡ true → b ≡ true → e ≡ z → e ≡ (x && y) && z
third_of_three p q d e r = rw (sym p ∙ d, sym q ∙ e) r

-- where p and q hold, t is the contrary of u
pub as_one_test : (p q t u : Bool) → (T p → T q → t ≡ not u) → (not (p && q) || t) ≡ not (p && q && u)
as_one_test true true t u f = f tt tt
as_one_test true false t u f = refl
as_one_test false q t u f = refl

-- ---- a choice by a test

pub cond_itself : (b : Bool) → cond b true false ≡ b
cond_itself true = refl
cond_itself false = refl

pub cond_or : (b c : Bool) → cond b true c ≡ b || c
cond_or true c = refl
cond_or false c = refl

-- What holds of both branches, each under its outcome of the test, holds of the choice.
pub cond_both : {X : Type 0} (P : X → Type 0) (b : Bool) {x y : X} → (T b → P x) → (T (not b) → P y) → P (cond b x y)
cond_both P true f g = f tt
cond_both P false f g = g tt

module _ {X : Type 0} where
  pub cond_yes : (b : Bool) (x y : X) → T b → cond b x y ≡ x
  cond_yes true x y t = refl
  cond_yes false x y t = absurd t

  pub cond_no : (b : Bool) (x y : X) → T (not b) → cond b x y ≡ y
  cond_no true x y t = absurd t
  cond_no false x y t = refl

  pub cond_again : (b : Bool) (x y : X) → cond b (cond b x y) y ≡ cond b x y
  cond_again true x y = refl
  cond_again false x y = refl

  pub cond_map : {Y : Type 0} (f : X → Y) (b : Bool) (x y : X) → f (cond b x y) ≡ cond b (f x) (f y)
  cond_map f true x y = refl
  cond_map f false x y = refl

  -- two tests that never both pass may be made in either order
  pub cond_swap : (b c : Bool) (x y z : X) → (T b → T c → ⊥) → cond b x (cond c y z) ≡ cond c y (cond b x z)
  cond_swap true true x y z apart = absurd (apart tt tt)
  cond_swap true false x y z apart = refl
  cond_swap false true x y z apart = refl
  cond_swap false false x y z apart = refl
