-- The order of offers as a statement, beside the test `ahead`: no two offers stand ahead of each other, and of any two that differ one stands ahead.
use Rattle.std.proofs.Common.{arith, sym, ◌∙◌, ap, subst, inl, inr, ⊎_elim}
use Rattle.std.specs.Prelude.{◌≡◌, refl, ◌⊎◌, ◌≢◌, Bool, true, false, not, ◌&&◌, ◌||◌, T, ℤ}
use Rattle.std.specs.Int.Signed.{le_z, lt_z}
use Rattle.integers.specs.Equal.{equal}
use Rattle.integers.specs.Parts.{int_rules, trichotomy, equal_eq}
use Rattle.offers.specs.Offers.{Offer, ahead, precedes}

pub data Ahead (a b : Offer) : Type 0 where
  by_rate_lem : T (lt_z b.rate a.rate) → Ahead a b
  by_base : a.rate ≡ b.rate → T (lt_z a.base b.base) → Ahead a b
  by_number : a.rate ≡ b.rate → a.base ≡ b.base → T (lt_z a.number b.number) → Ahead a b

-- ---- the test says so

lexical : (p q r s t : Bool) → T (p || q && (r || s && t)) → T p ⊎ (T q × (T r ⊎ (T s × T t)))
lexical false false r s t h = elim h [ ]
lexical false true false false t h = elim h [ ]
lexical true q r s t h = inl tt
lexical false true true s t h = inr (tt, inl tt)
lexical false true false true t h = inr (tt, inr (tt, h))

lexical_rate : (p q : Bool) → T p → T (p || q)
lexical_rate false q h = elim h [ ]
lexical_rate true q h = tt

lexical_later : (p q r : Bool) → T q → T r → T (p || q && r)
lexical_later false false r h k = elim h [ ]
lexical_later true q r h k = tt
lexical_later false true r h k = k

pub ahead_said : (a b : Offer) → T (ahead a b) → Ahead a b
ahead_said a b t =
    ⊎_elim by_rate_lem
    (λ s. ⊎_elim (λ k. by_base (equal_eq a.rate b.rate s.0) k)
    (λ k. by_number (equal_eq a.rate b.rate s.0) (equal_eq a.base b.base k.0) k.1) s.1)
    (lexical (precedes a b) (equal a.rate b.rate) (lt_z a.base b.base) (equal a.base b.base) (lt_z a.number b.number) t)

pub ahead_meant : (a b : Offer) → Ahead a b → T (ahead a b)
ahead_meant a b (by_rate_lem t) =
    lexical_rate (precedes a b)
    (equal a.rate b.rate && (lt_z a.base b.base || equal a.base b.base && lt_z a.number b.number)) t
ahead_meant a b (by_base e t) =
    lexical_later (precedes a b) (equal a.rate b.rate) (lt_z a.base b.base || equal a.base b.base && lt_z a.number b.number)
    (omega (arith, int_rules)) (lexical_rate (lt_z a.base b.base) (equal a.base b.base && lt_z a.number b.number) t)
ahead_meant a b (by_number e d t) =
    lexical_later (precedes a b) (equal a.rate b.rate) (lt_z a.base b.base || equal a.base b.base && lt_z a.number b.number)
    (omega (arith, int_rules)) (lexical_later (lt_z a.base b.base) (equal a.base b.base) (lt_z a.number b.number) (omega (arith, int_rules)) t)

-- ---- an order

pub ahead_asym : {a b : Offer} → Ahead a b → Ahead b a → ⊥
ahead_asym (by_rate_lem t) (by_rate_lem u) = omega (arith, int_rules)
ahead_asym (by_rate_lem t) (by_base e u) = omega (arith, int_rules)
ahead_asym (by_rate_lem t) (by_number e d u) = omega (arith, int_rules)
ahead_asym (by_base e t) (by_rate_lem u) = omega (arith, int_rules)
ahead_asym (by_base e t) (by_base f u) = omega (arith, int_rules)
ahead_asym (by_base e t) (by_number f d u) = omega (arith, int_rules)
ahead_asym (by_number e d t) (by_rate_lem u) = omega (arith, int_rules)
ahead_asym (by_number e d t) (by_base f u) = omega (arith, int_rules)
ahead_asym (by_number e d t) (by_number f g u) = omega (arith, int_rules)

-- no offer stands ahead of itself
pub ahead_other : {a b : Offer} → Ahead a b → a ≢ b
ahead_other {a} {b} k e = ahead_asym k (subst (λ y. Ahead y a) e (subst (λ y. Ahead a y) (sym e) k))

pub ahead_trans : {a b c : Offer} → Ahead a b → Ahead b c → Ahead a c
ahead_trans (by_rate_lem t) (by_rate_lem u) = by_rate_lem (omega (arith, int_rules))
ahead_trans (by_rate_lem t) (by_base e u) = by_rate_lem (omega (arith, int_rules))
ahead_trans (by_rate_lem t) (by_number e d u) = by_rate_lem (omega (arith, int_rules))
ahead_trans (by_base e t) (by_rate_lem u) = by_rate_lem (omega (arith, int_rules))
ahead_trans (by_base e t) (by_base f u) = by_base (e ∙ f) (omega (arith, int_rules))
ahead_trans (by_base e t) (by_number f d u) = by_base (e ∙ f) (omega (arith, int_rules))
ahead_trans (by_number e d t) (by_rate_lem u) = by_rate_lem (omega (arith, int_rules))
ahead_trans (by_number e d t) (by_base f u) = by_base (e ∙ f) (omega (arith, int_rules))
ahead_trans (by_number e d t) (by_number f g u) = by_number (e ∙ f) (d ∙ g) (omega (arith, int_rules))

-- two offers are one, or one stands ahead of the other
pub compare_offers : (a b : Offer) → (a ≡ b) ⊎ (Ahead a b ⊎ Ahead b a)
compare_offers a b = go (trichotomy a.rate b.rate) (trichotomy a.base b.base) (trichotomy a.number b.number)
  where
    go : T (lt_z a.rate b.rate) ⊎ ((a.rate ≡ b.rate) ⊎ T (lt_z b.rate a.rate)) →
        T (lt_z a.base b.base) ⊎ ((a.base ≡ b.base) ⊎ T (lt_z b.base a.base)) →
        T (lt_z a.number b.number) ⊎ ((a.number ≡ b.number) ⊎ T (lt_z b.number a.number)) → (a ≡ b) ⊎ (Ahead a b ⊎ Ahead b a)
    go (inl t) s n = inr (inr (by_rate_lem t))
    go (inr (inr t)) s n = inr (inl (by_rate_lem t))
    go (inr (inl e)) (inl t) n = inr (inl (by_base e t))
    go (inr (inl e)) (inr (inr t)) n = inr (inr (by_base (sym e) t))
    go (inr (inl e)) (inr (inl d)) (inl t) = inr (inl (by_number e d t))
    go (inr (inl e)) (inr (inl d)) (inr (inr t)) = inr (inr (by_number (sym e) (sym d) t))
    go (inr (inl e)) (inr (inl d)) (inr (inl f)) = inl (rw (e, d, f) refl)

-- ---- what it says of rates and bases

pub rate_falls : {a b : Offer} → Ahead a b → T (le_z b.rate a.rate)
rate_falls (by_rate_lem t) = omega (arith, int_rules)
rate_falls (by_base e t) = omega (arith, int_rules)
rate_falls (by_number e d t) = omega (arith, int_rules)

-- within a rate the base rises
pub base_rises : {a b : Offer} → (a ≡ b) ⊎ Ahead a b → a.rate ≡ b.rate → T (le_z a.base b.base)
base_rises {a} {b} (inl e) r = let d : a.base ≡ b.base = ap (λ o. o.base) e in omega (arith, int_rules)
base_rises (inr (by_rate_lem t)) r = omega (arith, int_rules)
base_rises (inr (by_base e t)) r = omega (arith, int_rules)
base_rises (inr (by_number e d t)) r = omega (arith, int_rules)
