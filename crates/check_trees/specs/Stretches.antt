-- Stretches of a scratch array: the numbers from one place up to another. Reading is total, so no bound on the array is asked.
use Rattle.std.specs.Prelude.{◌≡◌, refl, length, get_or}
use Rattle.std.proofs.Common.{sym, ◌∙◌, ap, ap₂, subst, add-one}
use mathlib.Core.List.{List, [], ◌∷◌, ◌++◌, map, IsChain}
use mathlib.Core.List.{Memᴰ}
use Prim.Native.Nat.{ℕ, zero, suc, ◌+◌, ◌-◌, ◌≤◌, ◌<◌}
use Rattle.std.proofs.Math.Decide.{ℕ_discrete}
use native.Mathlib.Omega.{arith}

-- n numbers from place a on
unfoldable pub stretch : List ℕ → ℕ → ℕ → List ℕ
stretch xs a zero = []
stretch xs a (suc n) = get_or xs a 0 ∷ stretch xs (suc a) n

-- from place a up to place b
abbrev pub span : List ℕ → ℕ → ℕ → List ℕ
span xs a b = stretch xs a (b - a)

pub stretch_length : (xs : List ℕ) (a n : ℕ) → length (stretch xs a n) ≡ n
unfolding stretch
stretch_length xs a zero = refl
stretch_length xs a (suc n) = ap suc (stretch_length xs (suc a) n)

pub stretch_at : (xs : List ℕ) (a n k d : ℕ) → k < n → get_or (stretch xs a n) k d ≡ get_or xs (a + k) 0
unfolding stretch
stretch_at xs a zero k d h = absurd (omega arith)
stretch_at xs a (suc n) zero d h = ap (λ (i : ℕ). get_or xs i 0) (omega arith)
stretch_at xs a (suc n) (suc k) d h = stretch_at xs (suc a) n k d (omega arith) ∙ ap (λ (i : ℕ). get_or xs i 0) (omega arith)

-- two stretches that agree place by place
pub stretch_same : (xs ys : List ℕ) (a b n : ℕ) → ((k : ℕ) → k < n → get_or xs (a + k) 0 ≡ get_or ys (b + k) 0) → stretch xs a n ≡ stretch ys b n
unfolding stretch
stretch_same xs ys a b zero f = refl
stretch_same xs ys a b (suc n) f =
    ap₂ ◌∷◌ (here (f zero (omega arith))) (stretch_same xs ys (suc a) (suc b) n (λ k h. there k (f (suc k) (omega arith))))
  where
    here : get_or xs (a + 0) 0 ≡ get_or ys (b + 0) 0 → get_or xs a 0 ≡ get_or ys b 0
    here e = let p : a + 0 ≡ a = omega arith in let q : b + 0 ≡ b = omega arith in rw (p, q) at e

    there : (k : ℕ) → get_or xs (a + suc k) 0 ≡ get_or ys (b + suc k) 0 → get_or xs (suc a + k) 0 ≡ get_or ys (suc b + k) 0
    there k e = let p : a + suc k ≡ suc a + k = omega arith in let q : b + suc k ≡ suc b + k = omega arith in rw (p, q) at e

-- .. and only then
pub stretch_agrees : (xs ys : List ℕ) (a b n : ℕ) → stretch xs a n ≡ stretch ys b n → (k : ℕ) → k < n → get_or xs (a + k) 0 ≡ get_or ys (b + k) 0
stretch_agrees xs ys a b n e k h = sym (stretch_at xs a n k 0 h) ∙ ap (λ (zs : List ℕ). get_or zs k 0) e ∙ stretch_at ys b n k 0 h

pub stretch_add : (xs : List ℕ) (a m n : ℕ) → stretch xs a (m + n) ≡ stretch xs a m ++ stretch xs (a + m) n
unfolding stretch
stretch_add xs a zero n = let p : 0 + n ≡ n = omega arith in let q : a + 0 ≡ a = omega arith in rw (p, q)
stretch_add xs a (suc m) n =
    let p : suc m + n ≡ suc (m + n) = omega arith in
    let q : a + suc m ≡ suc a + m = omega arith in
    rw (p, q) (ap (λ (zs : List ℕ). get_or xs a 0 ∷ zs) (stretch_add xs (suc a) m n))

-- the number at a place of the stretch is one of the stretch
stretch_mem : (xs : List ℕ) (a n k : ℕ) → k < n → Memᴰ (get_or xs (a + k) 0) (stretch xs a n)
unfolding stretch
stretch_mem xs a zero k h = absurd (omega arith)
stretch_mem xs a (suc n) zero h = let e : a + 0 ≡ a = omega arith in Memᴰ.head (ap (λ (i : ℕ). get_or xs i 0) e)
stretch_mem xs a (suc n) (suc k) h = Memᴰ.tail (let e : suc a + k ≡ a + suc k = omega arith in
    subst (λ (i : ℕ). Memᴰ (get_or xs i 0) (stretch xs (suc a) n)) e (stretch_mem xs (suc a) n k (omega arith)))

-- ---- by both ends

module _ (xs : List ℕ) where
  pub span_length : (a b : ℕ) → length (span xs a b) ≡ b - a
  span_length a b = stretch_length xs a (b - a)

  pub span_none : (a b : ℕ) → b ≤ a → span xs a b ≡ []
  unfolding stretch
  span_none a b h = let p : b - a ≡ 0 = omega arith in rw p

  pub span_at : (a b k d : ℕ) → a + k < b → get_or (span xs a b) k d ≡ get_or xs (a + k) 0
  span_at a b k d h = stretch_at xs a (b - a) k d (omega arith)

  -- cut in two
  pub span_cut : (a b c : ℕ) → a ≤ b → b ≤ c → span xs a c ≡ span xs a b ++ span xs b c
  span_cut a b c h k =
      let p : c - a ≡ (b - a) + (c - b) = omega arith in
      let q : a + (b - a) ≡ b = omega arith in
      rw (p, stretch_add xs a (b - a) (c - b), q)

  pub span_cons : (a b : ℕ) → a < b → span xs a b ≡ get_or xs a 0 ∷ span xs (suc a) b
  unfolding stretch
  span_cons a b h = let p : b - a ≡ suc (b - suc a) = omega arith in rw p

  pub span_one : (a : ℕ) → span xs a (suc a) ≡ get_or xs a 0 ∷ []
  span_one a = span_cons a (suc a) (omega arith) ∙ ap (λ (zs : List ℕ). get_or xs a 0 ∷ zs) (span_none (suc a) (suc a) (omega arith))

pub span_mem : (xs : List ℕ) (a b i : ℕ) → a ≤ i → i < b → Memᴰ (get_or xs i 0) (span xs a b)
span_mem xs a b i h k = let e : a + (i - a) ≡ i = omega arith in
    subst (λ (n : ℕ). Memᴰ (get_or xs n 0) (span xs a b)) e (stretch_mem xs a (b - a) (i - a) (omega arith))

-- two arrays that agree there
pub span_same : (xs ys : List ℕ) (a b : ℕ) → ((i : ℕ) → a ≤ i → i < b → get_or xs i 0 ≡ get_or ys i 0) → span xs a b ≡ span ys a b
span_same xs ys a b f = stretch_same xs ys a a (b - a) (λ k h. f (a + k) (omega arith) (omega arith))

-- ---- a relation of each place and the next is a chain of what stands there

module _ {A : Type 0} (R : A → A → Type 0) (f : ℕ → A) (xs : List ℕ) where
  chain_stretch : (a n : ℕ) → ((k : ℕ) → a ≤ k → k + 1 < a + n → R (f (get_or xs k 0)) (f (get_or xs (k + 1) 0))) → IsChain R (map f (stretch xs a n))
  unfolding stretch
  chain_stretch a zero h = IsChain.nil
  chain_stretch a (suc zero) h = IsChain.singleton (f (get_or xs a 0))
  chain_stretch a (suc (suc n)) h =
      IsChain.cons-cons (subst (λ (i : ℕ). R (f (get_or xs a 0)) (f (get_or xs i 0))) (add-one a) (h a (omega arith) (omega arith)))
      (chain_stretch (suc a) (suc n) (λ k l m. h k (omega arith) (omega arith)))

  stretch_chain : (a n : ℕ) → IsChain R (map f (stretch xs a n)) → (k : ℕ) → a ≤ k → k + 1 < a + n → R (f (get_or xs k 0)) (f (get_or xs (k + 1) 0))
  unfolding stretch
  stretch_chain a zero c k l m = absurd (omega arith)
  stretch_chain a (suc zero) c k l m = absurd (omega arith)
  stretch_chain a (suc (suc n)) (IsChain.cons-cons p c) k l m = go (ℕ_discrete k a) (stretch_chain (suc a) (suc n) c)
    where
      go : Dec (k ≡ a) → ((k : ℕ) → suc a ≤ k → k + 1 < suc a + suc n → R (f (get_or xs k 0)) (f (get_or xs (k + 1) 0))) →
          R (f (get_or xs k 0)) (f (get_or xs (k + 1) 0))
      go (yes e) h = rw e (subst (λ (i : ℕ). R (f (get_or xs a 0)) (f (get_or xs i 0))) (sym (add-one a)) p)
      go (no e) h = h k (omega arith) (omega arith)

  pub chain_span : (a b : ℕ) → ((k : ℕ) → a ≤ k → k < b - 1 → R (f (get_or xs k 0)) (f (get_or xs (k + 1) 0))) → IsChain R (map f (span xs a b))
  chain_span a b h = chain_stretch a (b - a) (λ k l m. h k l (omega arith))

  pub span_chain : (a b : ℕ) → IsChain R (map f (span xs a b)) → (k : ℕ) → a ≤ k → k < b - 1 → R (f (get_or xs k 0)) (f (get_or xs (k + 1) 0))
  span_chain a b c k l m = stretch_chain a (b - a) c k l (omega arith)
