-- Lists in order: keys that fall strictly, and tests that pass first and then no more.
use Rattle.std.specs.Prelude.{◌≡◌, refl, ◌⊎◌, Bool, not, T, ℤ}
use Rattle.std.proofs.Common.{sym, ap, ap₂, subst, inl, inr, ⊎_elim, arith, T_not}
use mathlib.Core.HLevel.{Π_prop}
use mathlib.Core.List.Memᴰ
use mathlib.Core.List.{List, [], ◌∷◌, ◌++◌, Memᴰ}
use mathlib.Core.List.Pairwise
use mathlib.Core.List.{mem-append_left, head-eq_of_cons-eq, tail-eq_of_cons-eq, Pairwise}
use mathlib.Core.List.{rel_of_Pairwise-cons}
use Rattle.std.proofs.Math.Dec.{T_prop}
use Rattle.std.specs.Int.Signed.{lt_z, le_z}
use Rattle.lists.specs.Members.{pairs_cons, one_owner}
use Rattle.integers.specs.Parts.{int_rules}
use Rattle.trees.specs.Tree.{Tree, leaf, node, leaves, last}
use Rattle.trees.specs.Leaves.{last_leaf}

module _ {A : Type 0} where
  -- each key is above all that follow
  abbrev pub Falling : (A → ℤ) → List A → Type 0
  Falling key = Pairwise (λ a b. T (lt_z (key b) (key a)))

  -- what passes the test stands in front of what does not
  abbrev pub Turning : (A → Bool) → List A → Type 0
  Turning test = Pairwise (λ a b. T (test b) → T (test a))

  -- every element passes, none passes
  abbrev pub All : (A → Bool) → List A → Type 0
  All test xs = (a : A) → Memᴰ a xs → T (test a)

  abbrev pub None : (A → Bool) → List A → Type 0
  None test = All (λ a. not (test a))

  pub all_one : (test : A → Bool) {x : A} → T (test x) → All test (x ∷ [])
  all_one test {x} t a m = subst (λ c. T (test c)) (sym (Memᴰ.eq_of_singleton m)) t

  pub all_append : (test : A → Bool) (xs : List A) {ys : List A} → All test xs → All test ys → All test (xs ++ ys)
  all_append test xs p q a m = ⊎_elim (p a) (q a) (Memᴰ.append_cases xs m)

  pub falling_turning : (key : A → ℤ) (low : ℤ) {xs : List A} → Falling key xs → Turning (λ a. le_z low (key a)) xs
  falling_turning key low = Pairwise.imp (λ a b h t. omega (arith, int_rules))

  -- what passes, followed by what fails
  pub halves_turning : (test : A → Bool) (xs ys : List A) → All test xs → None test ys → Turning test (xs ++ ys)
  halves_turning test [] [] p n = Pairwise.nil
  halves_turning test [] (y ∷ ys) p n =
      pairs_cons (λ a b. Π_prop (λ t. T_prop (test a))) (λ b m t. absurd (T_not (test b) (n b (Memᴰ.tail m)) t))
      (halves_turning test [] ys p (λ a m. n a (Memᴰ.tail m)))
  halves_turning test (x ∷ xs) ys p n =
      Pairwise.cons (λ b m t. p x (Memᴰ.head refl)) (halves_turning test xs ys (λ a m. p a (Memᴰ.tail m)) n)

  -- ---- two lists one behind the other

  pub record Parted (R : A → A → Type 0) (xs ys : List A) : Type 0 where
    pub left : Pairwise R xs
    pub right : Pairwise R ys
    pub across : {a b : A} → Memᴰ a xs → Memᴰ b ys → R a b

  pub parted : {R : A → A → Type 0} (xs : List A) {ys : List A} → Pairwise R (xs ++ ys) → Parted R xs ys
  parted [] p = record { left = Pairwise.nil; right = p; across = λ m n. elim m [ ] }
  parted {R} (x ∷ xs) {ys} p = go (parted xs (Pairwise.of_cons p))
    where
      go : Parted R xs ys → Parted R (x ∷ xs) ys
      go q = record { left = Pairwise.cons (λ a m. rel_of_Pairwise-cons p (mem-append_left ys m)) q.left; right = q.right; across = across }
        where
          across : {a b : A} → Memᴰ a (x ∷ xs) → Memᴰ b ys → R a b
          across {a} {b} (Memᴰ.head e) n = subst (λ c. R c b) (sym e) (rel_of_Pairwise-cons p ∣ Memᴰ.append_right xs n ∣₁)
          across (Memᴰ.tail m) n = q.across m n

  -- every leaf is the last, or stands in front of it
  pub up_to_last : {R : A → A → Type 0} (t : Tree A) → Pairwise R (leaves t) → {a : A} → Memᴰ a (leaves t) → (a ≡ last t) ⊎ R a (last t)
  up_to_last (leaf x) p m = inl (Memᴰ.eq_of_singleton m)
  up_to_last (node l r) p m =
      let q = parted (leaves l) p in
      ⊎_elim (λ k. inr (q.across k (last_leaf r))) (λ k. up_to_last r q.right k) (Memᴰ.append_cases (leaves l) m)

  -- where keys fall, no leaf's is below the last one's
  pub last_lowest : (key : A → ℤ) (t : Tree A) → Falling key (leaves t) → {a : A} → Memᴰ a (leaves t) → T (le_z (key (last t)) (key a))
  last_lowest key t p {a} m =
      ⊎_elim (λ (e : a ≡ last t). let k : key a ≡ key (last t) = ap key e in omega (arith, int_rules))
      (λ (h : T (lt_z (key (last t)) (key a))). omega (arith, int_rules))
      (up_to_last t p m)

  -- where keys fall, a key tells its owner
  pub falling_one : (key : A → ℤ) {xs : List A} → Falling key xs → {a b : A} → Memᴰ a xs → Memᴰ b xs → key a ≡ key b → a ≡ b
  falling_one key p = one_owner key (Pairwise.imp (λ a b h e. omega (arith, int_rules)) p)

  -- ---- a list is cut in one way only

  pub one_cut : (test : A → Bool) (xs us : List A) {ys vs : List A} → xs ++ ys ≡ us ++ vs → All test xs → All test us → None test ys → None test vs →
      (xs ≡ us) × (ys ≡ vs)
  one_cut test [] [] e p q n k = (refl, e)
  one_cut test [] (u ∷ us) e p q n k = absurd (T_not (test u) (n u (rw e (Memᴰ.head refl))) (q u (Memᴰ.head refl)))
  one_cut test (x ∷ xs) [] e p q n k = absurd (T_not (test x) (k x (rw (← e) (Memᴰ.head refl))) (p x (Memᴰ.head refl)))
  one_cut test (x ∷ xs) (u ∷ us) e p q n k =
      let c = one_cut test xs us (tail-eq_of_cons-eq e) (λ a m. p a (Memᴰ.tail m)) (λ a m. q a (Memᴰ.tail m)) n k in
      (ap₂ ◌∷◌ (head-eq_of_cons-eq e) c.0, c.1)
