-- The first of each class of a list, where a test tells that one class comes before another.
use Rattle.std.specs.Prelude.{Bool, ◌≡◌, refl, T}
use mathlib.Core.List.Sublistᴰ
use mathlib.Core.List.{List, [], ◌∷◌, map, Sublistᴰ}
use mathlib.Core.List.Pairwise
use mathlib.Core.List.{Pairwise}
use Rattle.std.proofs.Common.{◌∙◌, ap}
use Rattle.std.proofs.Math.Dec.{T_prop}
use Rattle.lists.specs.Filter.{keep, keep_map, keep_sublist, keep_passes, keep_all}
use Rattle.lists.specs.Members.{pairs_cons}

module _ {A : Type 0} where
  -- an element, then the firsts behind it that are of a later class
  abbrev pub firsts : (A → A → Bool) → List A → List A
  firsts before [] = []
  firsts before (x ∷ xs) = x ∷ keep (before x) (firsts before xs)

pub firsts_map : {A B : Type 0} (before : B → B → Bool) (f : A → B) (xs : List A) → firsts before (map f xs) ≡ map f (firsts (λ a b. before (f a) (f b)) xs)
firsts_map before f [] = refl
firsts_map {A} {B} before f (x ∷ xs) =
    ap {B = List B} (λ (r : List B). f x ∷ r)
    (ap (keep (before (f x))) (firsts_map before f xs) ∙ keep_map (before (f x)) f (firsts (λ a b. before (f a) (f b)) xs))

-- ---- of any list and test

module _ {A : Type 0} (before : A → A → Bool) where
  pub firsts_sub : (xs : List A) → Sublistᴰ (firsts before xs) xs
  firsts_sub [] = Sublistᴰ.slnil
  firsts_sub (x ∷ xs) = Sublistᴰ.cons-cons refl (Sublistᴰ.trans (keep_sublist (before x) (firsts before xs)) (firsts_sub xs))

  -- each is before all later ones
  pub firsts_pairs : (xs : List A) → Pairwise (λ a b. T (before a b)) (firsts before xs)
  firsts_pairs [] = Pairwise.nil
  firsts_pairs (x ∷ xs) =
      pairs_cons (λ a b. T_prop (before a b)) (λ b m. keep_passes (before x) (firsts before xs) b m)
      (Pairwise.sublistᴰ (keep_sublist (before x) (firsts before xs)) (firsts_pairs xs))

  -- so where each is before all later ones, each is a first
  pub firsts_all : {xs : List A} → Pairwise (λ a b. T (before a b)) xs → firsts before xs ≡ xs
  firsts_all Pairwise.nil = refl
  firsts_all (Pairwise.cons {a} {l} h p) =
      ap {B = List A} (λ (r : List A). a ∷ r) (ap (keep (before a)) (firsts_all p) ∙ keep_all (before a) l (λ b m. h b ∣ m ∣₁))
