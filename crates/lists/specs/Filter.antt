-- A test on every element of a list, and the elements that pass one, as functions that compute.
use Rattle.std.specs.Prelude.{◌≡◌, refl, ◌⊎◌, Bool, true, false, ◌&&◌, cond, T}
use Rattle.std.proofs.Common.{sym, ◌∙◌, subst, ap, inl, inr, ⊎_elim}
use mathlib.Core.List.Memᴰ
use mathlib.Core.List.{List, map, [], ◌∷◌, ◌++◌, Memᴰ, Sublistᴰ}
use Rattle.std.proofs.Math.Dec.{not_T}
use Rattle.lists.specs.Bools.{and_both, and_left, and_right, cond_yes, cond_no}

module _ {A : Type 0} where
  abbrev pub every : (A → Bool) → List A → Bool
  every p [] = true
  every p (x ∷ xs) = p x && every p xs

  abbrev pub keep : (A → Bool) → List A → List A
  keep p [] = []
  keep p (x ∷ xs) = cond (p x) (x ∷ keep p xs) (keep p xs)

  pub every_at : (p : A → Bool) (l : List A) → T (every p l) → (a : A) → Memᴰ a l → T (p a)
  every_at p [] t a m = elim m [ ]
  every_at p (x ∷ xs) t a m =
      ⊎_elim (λ (e : a ≡ x). subst (λ (y : A). T (p y)) (sym e) (and_left (p x) (every p xs) t)) (λ m'. every_at p xs (and_right (p x) (every p xs) t) a m')
      (Memᴰ.cases_cons m)

  pub every_all : (p : A → Bool) (l : List A) → ((a : A) → Memᴰ a l → T (p a)) → T (every p l)
  every_all p [] h = tt
  every_all p (x ∷ xs) h = and_both (p x) (every p xs) (h x (Memᴰ.head refl)) (every_all p xs (λ a m. h a (Memᴰ.tail m)))

  pub keep_sublist : (p : A → Bool) (l : List A) → Sublistᴰ (keep p l) l
  keep_sublist p [] = Sublistᴰ.slnil
  keep_sublist p (x ∷ xs) = step (p x) (keep_sublist p xs)
    where
      step : (b : Bool) → Sublistᴰ (keep p xs) xs → Sublistᴰ (cond b (x ∷ keep p xs) (keep p xs)) (x ∷ xs)
      step true s = Sublistᴰ.cons-cons refl s
      step false s = Sublistᴰ.cons s

  pub keep_passes : (p : A → Bool) (l : List A) (a : A) → Memᴰ a (keep p l) → T (p a)
  keep_passes p [] a m = elim m [ ]
  keep_passes p (x ∷ xs) a m = step (p x) refl m (keep_passes p xs a)
    where
      step : (b : Bool) → p x ≡ b → Memᴰ a (cond b (x ∷ keep p xs) (keep p xs)) → (Memᴰ a (keep p xs) → T (p a)) → T (p a)
      step true e m ih = ⊎_elim (λ (q : a ≡ x). rw (q, e) tt) ih (Memᴰ.cases_cons m)
      step false e m ih = ih m

  pub keep_in : (p : A → Bool) (l : List A) (a : A) → Memᴰ a l → T (p a) → Memᴰ a (keep p l)
  keep_in p [] a m t = elim m [ ]
  keep_in p (x ∷ xs) a m t = step (p x) refl (Memᴰ.cases_cons m) (λ m'. keep_in p xs a m' t)
    where
      step : (b : Bool) → p x ≡ b → (a ≡ x) ⊎ Memᴰ a xs → (Memᴰ a xs → Memᴰ a (keep p xs)) → Memᴰ a (cond b (x ∷ keep p xs) (keep p xs))
      step true e (inl q) ih = Memᴰ.head q
      step true e (inr m') ih = Memᴰ.tail (ih m')
      step false e (inl q) ih = absurd (subst T e (subst (λ (y : A). T (p y)) q t))
      step false e (inr m') ih = ih m'

  -- where all pass, all are kept
  pub keep_all : (p : A → Bool) (xs : List A) → ((a : A) → Memᴰ a xs → T (p a)) → keep p xs ≡ xs
  keep_all p [] h = refl
  keep_all p (x ∷ xs) h =
      cond_yes (p x) (x ∷ keep p xs) (keep p xs) (h x (Memᴰ.head refl))
      ∙ ap {B = List A} (λ (r : List A). x ∷ r) (keep_all p xs (λ a m. h a (Memᴰ.tail m)))

  -- tests that agree keep the same
  pub keep_same : (p q : A → Bool) → ((a : A) → p a ≡ q a) → (l : List A) → keep p l ≡ keep q l
  keep_same p q h [] = refl
  keep_same p q h (x ∷ xs) = rw (h x, keep_same p q h xs)

  pub keep_append : (p : A → Bool) (xs ys : List A) → keep p (xs ++ ys) ≡ keep p xs ++ keep p ys
  keep_append p [] ys = refl
  keep_append p (x ∷ xs) ys = step (p x) (keep_append p xs ys)
    where
      step : (b : Bool) → keep p (xs ++ ys) ≡ keep p xs ++ keep p ys →
          cond b (x ∷ keep p (xs ++ ys)) (keep p (xs ++ ys)) ≡ cond b (x ∷ keep p xs) (keep p xs) ++ keep p ys
      step true e = ap {B = List A} (λ (r : List A). x ∷ r) e
      step false e = e

  -- where none passes, none is kept
  pub keep_none : (p : A → Bool) (xs : List A) → ((a : A) → Memᴰ a xs → ¬ T (p a)) → keep p xs ≡ []
  keep_none p [] h = refl
  keep_none p (x ∷ xs) h =
      cond_no (p x) (x ∷ keep p xs) (keep p xs) (not_T (p x) (h x (Memᴰ.head refl))) ∙ keep_none p xs (λ a m. h a (Memᴰ.tail m))

module _ {A B : Type 0} where
  pub every_map : (p : B → Bool) (f : A → B) (l : List A) → every p (map f l) ≡ every (λ a. p (f a)) l
  every_map p f [] = refl
  every_map p f (x ∷ xs) = ap (λ (b : Bool). p (f x) && b) (every_map p f xs)

  pub keep_map : (p : B → Bool) (f : A → B) (l : List A) → keep p (map f l) ≡ map f (keep (λ a. p (f a)) l)
  keep_map p f [] = refl
  keep_map p f (x ∷ xs) = step (p (f x)) (keep_map p f xs)
    where
      step : (b : Bool) → keep p (map f xs) ≡ map f (keep (λ a. p (f a)) xs) →
          cond b (f x ∷ keep p (map f xs)) (keep p (map f xs)) ≡ map f (cond b (x ∷ keep (λ a. p (f a)) xs) (keep (λ a. p (f a)) xs))
      step true e = ap {B = List B} (λ (r : List B). f x ∷ r) e
      step false e = e
