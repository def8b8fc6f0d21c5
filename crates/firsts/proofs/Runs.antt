-- Theorems on specs/Runs.
use Rattle.std.specs.Prelude.{◌≡◌, refl, Bool, true, false, not, cond, T}
use Rattle.std.proofs.Common.{sym, ◌∙◌, ap, subst}
use mathlib.Core.List.Memᴰ
use mathlib.Core.List.Pairwise
use mathlib.Core.List.{List, [], ◌∷◌, ◌++◌, Pairwise, rel_of_Pairwise-cons}
use Rattle.lists.specs.Bools.{passed, failed, is_false}
use Rattle.lists.specs.Filter.{keep}
use Rattle.lists.specs.Firsts.{firsts}
use Rattle.firsts.specs.Runs.{Resumes, Stands, Stops, at_first, behind, keep_twice, past, resumes_nowhere, stops}

module _ {A : Type 0} (before : A → A → Bool) (cheap : A → Bool) where
  behind_cons : {a b : A} (xs : List A) → (Stands before cheap) a b → (behind before cheap) a (b ∷ xs) ≡ cond (before a b) (b ∷ (behind before cheap) b xs) ((behind before cheap) b xs)
  behind_cons {a} {b} xs s =
      ap (λ (l : List A). cond (before a b) (b ∷ l) l) (keep_twice (before a) (before b) s.earlier (firsts before xs))

  -- the next of its class leads to the same firsts
  pub behind_next : {a b : A} (xs : List A) → (Stands before cheap) a b → T (not (before a b)) → (behind before cheap) a (b ∷ xs) ≡ (behind before cheap) b xs
  behind_next {a} {b} xs s t = behind_cons xs s ∙ ap (λ (c : Bool). cond c (b ∷ (behind before cheap) b xs) ((behind before cheap) b xs)) (is_false (before a b) t)

  -- Where the walk stops behind a, it goes on at the next first that passes: what lies between does not pass.
  pub skipping : (a : A) (xs : List A) → Pairwise (Stands before cheap) (a ∷ xs) → (Stops before cheap) a xs → (Resumes before cheap) xs (keep cheap ((behind before cheap) a xs))
  skipping a [] p h = resumes_nowhere refl
  skipping a (b ∷ xs) p h =
      subst (λ (l : List A). (Resumes before cheap) (b ∷ xs) (keep cheap l)) (sym (behind_cons xs (rel_of_Pairwise-cons p ∣ Memᴰ.head refl ∣₁)))
      (go (before a b) h (λ t. (past before cheap) t (skipping b xs (Pairwise.of_cons p) ((stops before cheap) xs (Pairwise.of_cons p) t))))
    where
      go : (c : Bool) → (T (not c) → T (not (cheap b))) → (T (not (cheap b)) → (Resumes before cheap) (b ∷ xs) (keep cheap ((behind before cheap) b xs))) →
          (Resumes before cheap) (b ∷ xs) (keep cheap (cond c (b ∷ (behind before cheap) b xs) ((behind before cheap) b xs)))
      go true f k = (at_first before cheap) b xs k
      go false f k = k (f tt)

  -- from the front
  pub starting : (xs : List A) → Pairwise (Stands before cheap) xs → (Resumes before cheap) xs (keep cheap (firsts before xs))
  starting [] p = resumes_nowhere refl
  starting (b ∷ xs) p = (at_first before cheap) b xs (λ t. (past before cheap) t (skipping b xs p ((stops before cheap) xs p t)))
