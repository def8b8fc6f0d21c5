-- Lists without repeats among others: one is no longer than a list that has all its members, and where both are as long they have the same.
use Rattle.std.specs.Prelude.{◌≡◌, refl, ◌≢◌, suc, ◌≤◌, length}
use Rattle.std.proofs.Common.{sym, ◌∙◌, ap, ⊎_elim, arith}
use mathlib.Core.List.Memᴰ
use mathlib.Core.List.Pairwise
use mathlib.Core.List.{List, [], ◌∷◌, Memᴰ, Pairwise}
use mathlib.Core.List.{rel_of_Pairwise-cons}
use Rattle.lists.specs.Members.{Among}

module _ {A : Type 0} where
  abbrev pub Distinct : List A → Type 0
  Distinct = Pairwise (λ (a b : A). a ≢ b)

  -- ys with one member taken out
  record Without (a : A) (ys : List A) : Type 0 where
    others : List A
    long : length ys ≡ suc (length others)
    rest : (b : A) → Memᴰ b ys → b ≢ a → Memᴰ b others

  without : {a : A} {ys : List A} → Memᴰ a ys → Without a ys
  without (Memᴰ.head {xs} e) =
      record { others = xs; long = refl; rest = λ b m d. ⊎_elim (λ q. absurd (d (q ∙ sym e))) (λ n. n) (Memᴰ.cases_cons m) }
  without (Memᴰ.tail {x = y} m) =
      let q = without m in
      record {
        others = y ∷ q.others;
        long = ap suc q.long;
        rest = λ b n d. ⊎_elim (λ e. Memᴰ.head e) (λ k. Memᴰ.tail (q.rest b k d)) (Memᴰ.cases_cons n);
      }

  pub among_length : (xs ys : List A) → Distinct xs → Among xs ys → length xs ≤ length ys
  among_length [] ys p f = omega arith
  among_length (x ∷ xs) ys p f =
      let q = without (f x (Memᴰ.head refl)) in
      let k = among_length xs q.others (Pairwise.of_cons p) (λ a m. q.rest a (f a (Memᴰ.tail m)) (λ e. rel_of_Pairwise-cons p ∣ m ∣₁ (sym e))) in
      omega (arith, q.long)

  decide_member : (b : A) (xs : List A) → ((a : A) → Memᴰ a xs → Dec (b ≡ a)) → Dec (Memᴰ b xs)
  decide_member b [] d = no Memᴰ.not-nil
  decide_member b (x ∷ xs) d = go (d x (Memᴰ.head refl)) (decide_member b xs (λ a m. d a (Memᴰ.tail m)))
    where
      go : Dec (b ≡ x) → Dec (Memᴰ b xs) → Dec (Memᴰ b (x ∷ xs))
      go (yes e) q = yes (Memᴰ.head e)
      go (no e) (yes m) = yes (Memᴰ.tail m)
      go (no e) (no n) = no (λ m. ⊎_elim e n (Memᴰ.cases_cons m))

  -- members that can be told apart
  pub among_all : (xs ys : List A) → Distinct xs → Among xs ys → length ys ≤ length xs → ((a b : A) → Memᴰ a xs → Memᴰ b ys → Dec (b ≡ a)) →
      Among ys xs
  among_all xs ys p f h d b m = go (decide_member b xs (λ a n. d a b n m))
    where
      go : Dec (Memᴰ b xs) → Memᴰ b xs
      go (yes n) = n
      go (no n) =
          let q = without m in
          let k = among_length xs q.others p (λ a i. q.rest a (f a i) (λ e. n (rw e at i))) in
          absurd (omega (arith, q.long))
