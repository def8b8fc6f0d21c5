-- A list in order, walked from the first of each class: which of its elements pass a test that, within a class, passes first and then no more.
use Rattle.std.specs.Prelude.{◌≡◌, refl, Bool, true, false, not, cond, T}
use Rattle.std.proofs.Common.{sym, ◌∙◌, ap, subst}
use mathlib.Core.List.Memᴰ
use mathlib.Core.List.Pairwise
use mathlib.Core.List.{List, [], ◌∷◌, ◌++◌, Pairwise, rel_of_Pairwise-cons}
use Rattle.lists.specs.Bools.{passed, failed, is_false}
use Rattle.lists.specs.Filter.{keep}
use Rattle.lists.specs.Firsts.{firsts}

module _ {A : Type 0} where
  -- a test that follows from a second one drops nothing that passed the second
  pub keep_twice : (p q : A → Bool) → ((a : A) → T (q a) → T (p a)) → (xs : List A) → keep p (keep q xs) ≡ keep q xs
  keep_twice p q h [] = refl
  keep_twice p q h (x ∷ xs) = go (q x) (h x) (keep_twice p q h xs)
    where
      first : (b : Bool) → T b → keep p (keep q xs) ≡ keep q xs → cond b (x ∷ keep p (keep q xs)) (keep p (keep q xs)) ≡ x ∷ keep q xs
      first false t e = elim t [ ]
      first true t e = ap {B = List A} (λ (r : List A). x ∷ r) e

      go : (b : Bool) → (T b → T (p x)) → keep p (keep q xs) ≡ keep q xs → keep p (cond b (x ∷ keep q xs) (keep q xs)) ≡ cond b (x ∷ keep q xs) (keep q xs)
      go true f e = first (p x) (f tt) e
      go false f e = e

module _ {A : Type 0} (before : A → A → Bool) (cheap : A → Bool) where
  -- a stands ahead of b: it is of the same class or an earlier one, and within a class b passes the test only where a does
  pub record Stands (a b : A) : Type 0 where
    pub earlier : (c : A) → T (before b c) → T (before a c)
    pub settled : T (not (before a b)) → T (cheap b) → T (cheap a)

  -- the firsts of the classes behind that of a
  abbrev pub behind : A → List A → List A
  behind a xs = keep (before a) (firsts before xs)

  -- the element behind a is of a later class or does not pass
  abbrev pub Stops : A → List A → Type 0
  Stops a [] = Unit {0}
  Stops a (b ∷ xs) = T (not (before a b)) → T (not (cheap b))

  -- of the list nothing passes, or the first that does is a first of its class; with the firsts that pass
  pub data Resumes : List A → List A → Type 0 where
    resumes_nowhere : {xs : List A} → keep cheap xs ≡ [] → Resumes xs []
    resumes_at : (skipped : List A) (a : A) (xs : List A) → keep cheap skipped ≡ [] → T (cheap a) →
        Resumes (skipped ++ a ∷ xs) (a ∷ keep cheap (behind a xs))

  pub dropped : (a : A) (xs : List A) → T (not (cheap a)) → keep cheap xs ≡ [] → keep cheap (a ∷ xs) ≡ []
  dropped a xs t e = ap (λ (c : Bool). cond c (a ∷ keep cheap xs) (keep cheap xs)) (is_false (cheap a) t) ∙ e

  -- one more that does not pass
  pub past : {a : A} {xs gs : List A} → T (not (cheap a)) → Resumes xs gs → Resumes (a ∷ xs) gs
  past {a} t (resumes_nowhere {xs} e) = resumes_nowhere (dropped a xs t e)
  past {a} t (resumes_at skipped b xs e u) = resumes_at (a ∷ skipped) b xs (dropped a skipped t e) u

  -- behind one that does not pass the next stops
  pub stops : {a : A} (xs : List A) → Pairwise Stands (a ∷ xs) → T (not (cheap a)) → Stops a xs
  stops [] p t = tt
  stops {a} (b ∷ xs) p t = λ n. go (cheap a) (cheap b) t ((rel_of_Pairwise-cons p ∣ Memᴰ.head refl ∣₁).settled n)
    where
      go : (c d : Bool) → T (not c) → (T d → T c) → T (not d)
      go true d u f = elim u [ ]
      go false false u f = tt
      go false true u f = f tt

  -- the first of a class passes, or is passed over
  pub at_first : (b : A) (xs : List A) → (T (not (cheap b)) → Resumes (b ∷ xs) (keep cheap (behind b xs))) →
      Resumes (b ∷ xs) (keep cheap (b ∷ behind b xs))
  at_first b xs k = go (cheap b) refl
    where
      go : (d : Bool) → cheap b ≡ d → Resumes (b ∷ xs) (cond d (b ∷ keep cheap (behind b xs)) (keep cheap (behind b xs)))
      go true e = resumes_at [] b xs refl (passed e)
      go false e = k (failed e)
