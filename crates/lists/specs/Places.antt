-- Members, the places where they stand, sublists, and the list turned round.
use Rattle.std.specs.Prelude.{ℕ, zero, suc, ◌-◌, ◌<◌, ◌≡◌, refl, ◌⊎◌, length, get_or, take, drop}
use Rattle.std.proofs.Common.{suc-le-suc, zero-le, not-suc-le-zero, le_of_suc-le-suc, arith, sym, ap, subst, ◌∙◌, inl, inr, ⊎_elim, length-drop}
use mathlib.Core.List.Memᴰ
use mathlib.Core.List.{List, [], ◌∷◌, ◌++◌, reverse, reverse_aux, reverse-append, reverse-cons, reverse-reverse, Memᴰ}
use mathlib.Core.List.Sublistᴰ
use mathlib.Core.List.{Sublistᴰ}
use Rattle.std.proofs.lemmas.List.{length-reverse, get_or_at}
use Rattle.std.proofs.Math.Seq.{append_snoc, split_at}

module _ {A : Type 0} where
  -- what holds of the first and of all later ones holds of all
  pub all_cons {κ} : {P : A → Type κ} {x : A} {xs : List A} → P x → ((a : A) → Memᴰ a xs → P a) → (a : A) → Memᴰ a (x ∷ xs) → P a
  all_cons {P} {x} p h a m = ⊎_elim (λ (e : a ≡ x). subst P (sym e) p) (h a) (Memᴰ.cases_cons m)

  pub mem_at : (l : List A) (i : ℕ) (d : A) → i < length l → Memᴰ (get_or l i d) l
  mem_at [] i d h = absurd (not-suc-le-zero h)
  mem_at (x ∷ xs) zero d h = Memᴰ.head refl
  mem_at (x ∷ xs) (suc i) d h = Memᴰ.tail (mem_at xs i d (le_of_suc-le-suc h))

  pub place_of : {a : A} {l : List A} (d : A) → Memᴰ a l → (i : ℕ) × (i < length l) × (a ≡ get_or l i d)
  place_of d (Memᴰ.head e) = (zero, suc-le-suc zero-le, e)
  place_of d (Memᴰ.tail m) = let (i, h, e) = place_of d m in (suc i, suc-le-suc h, e)

  -- the part in front of a member, and the part behind it
  pub mem_split : {a : A} {l : List A} → Memᴰ a l → (xs : List A) × (ys : List A) × (l ≡ xs ++ a ∷ ys)
  mem_split (Memᴰ.head {x} {xs} e) = ([], xs, ap (λ z. z ∷ xs) (sym e))
  mem_split (Memᴰ.tail {x} m) = let (ys, zs, e) = mem_split m in (x ∷ ys, zs, ap (λ l. x ∷ l) e)

  pub sublist_mem : {a : A} {s l : List A} → Sublistᴰ s l → Memᴰ a s → Memᴰ a l
  sublist_mem Sublistᴰ.slnil m = m
  sublist_mem (Sublistᴰ.cons s) m = Memᴰ.tail (sublist_mem s m)
  sublist_mem (Sublistᴰ.cons-cons e s) m = ⊎_elim (λ q. Memᴰ.head (q ∙ e)) (λ m'. Memᴰ.tail (sublist_mem s m')) (Memᴰ.cases_cons m)

  pub prefix_sub : (xs ys : List A) → Sublistᴰ xs (xs ++ ys)
  prefix_sub [] ys = Sublistᴰ.nil-sublist ys
  prefix_sub (x ∷ xs) ys = Sublistᴰ.cons-cons refl (prefix_sub xs ys)

  mem_onto : {a : A} (l r : List A) → Memᴰ a l ⊎ Memᴰ a r → Memᴰ a (reverse_aux l r)
  mem_onto [] r (inl m) = absurd (Memᴰ.not-nil m)
  mem_onto [] r (inr m) = m
  mem_onto {a} (x ∷ xs) r (inl m) = ⊎_elim (λ e. mem_onto xs (x ∷ r) (inr (Memᴰ.head e))) (λ m'. mem_onto xs (x ∷ r) (inl m')) (Memᴰ.cases_cons m)
  mem_onto (x ∷ xs) r (inr m) = mem_onto xs (x ∷ r) (inr (Memᴰ.tail m))

  pub mem_reverse : {a : A} {l : List A} → Memᴰ a l → Memᴰ a (reverse l)
  mem_reverse {l} m = mem_onto l [] (inl m)

  pub mem_unreverse : {a : A} (l : List A) → Memᴰ a (reverse l) → Memᴰ a l
  mem_unreverse {a} l m = subst (λ (r : List A). Memᴰ a r) (reverse-reverse l) (mem_reverse m)

  -- the list turned round, about one of its elements
  pub reverse_about : (xs : List A) (y : A) (ys : List A) → reverse (xs ++ y ∷ ys) ≡ reverse ys ++ y ∷ reverse xs
  reverse_about xs y ys = reverse-append xs (y ∷ ys) ∙ ap (λ (r : List A). r ++ reverse xs) (reverse-cons y ys) ∙ append_snoc (reverse ys) y (reverse xs)

  -- counted from the last, that element stands after those behind it
  pub get_d_reverse_about : (xs : List A) (y : A) (ys : List A) (d : A) → get_or (reverse (xs ++ y ∷ ys)) (length ys) d ≡ y
  get_d_reverse_about xs y ys d = ap (λ (r : List A). get_or r (length ys) d) (reverse_about xs y ys)
      ∙ get_or_at (reverse ys) y (reverse xs) d (length ys) (length-reverse ys)

  -- counted from the last
  pub get_d_reverse : (l : List A) (j : ℕ) (d : A) → j < length l → get_or (reverse l) j d ≡ get_or l (length l - suc j) d
  get_d_reverse l j d h =
      let k : ℕ = length l - suc j in
      let n : length (drop (suc k) l) ≡ j = length-drop (suc k) l ∙ omega arith in
      ap (λ z. get_or (reverse z) j d) (split_at l k d (omega arith)) ∙ ap (λ z. get_or (reverse (take k l ++ get_or l k d ∷ drop (suc k) l)) z d) (sym n)
      ∙ get_d_reverse_about (take k l) (get_or l k d) (drop (suc k) l) d

  pub get_d_next : (xs : List A) (y z : A) (zs : List A) (d : A) → get_or (xs ++ y ∷ z ∷ zs) (suc (length xs)) d ≡ z
  get_d_next [] y z zs d = refl
  get_d_next (x ∷ xs) y z zs d = get_d_next xs y z zs d

  pub place_inside : (xs : List A) (y : A) (ys : List A) → length xs < length (xs ++ y ∷ ys)
  place_inside [] y ys = suc-le-suc zero-le
  place_inside (x ∷ xs) y ys = suc-le-suc (place_inside xs y ys)
