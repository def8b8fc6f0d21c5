-- Lines in order: sublists, two lists one after the other, the list turned round, and that the members decide the list.
use Rattle.std.specs.Prelude.{ℕ, zero, suc, ◌<◌, ◌≡◌, refl, ◌⊎◌, ◌≢◌, T, length, get_or}
use Rattle.std.proofs.Common.{not-suc-le-zero, le_of_suc-le-suc, sym, subst, ◌∙◌, ap₂, inl, inr, ⊎_elim}
use mathlib.Core.List.Memᴰ
use mathlib.Core.List.{List, [], ◌∷◌, ◌++◌, reverse, reverse_aux, Memᴰ}
use mathlib.Core.List.{Sublistᴰ}
use mathlib.Core.List.{Pairwise}
use Rattle.std.proofs.Math.Dec.{T_prop}
use Rattle.lists.specs.Members.{pairs_cons}
use Rattle.lists.specs.Places.{mem_at, sublist_mem}
use Rattle.envelopes.specs.PseudoLines.{Figure, PseudoLines, mirror}
use Rattle.envelopes.specs.Envelope.{Ordered, ordered_nil, ordered_cons}

-- the order, as a relation of all pairs
pub ordered_pairs : {S : Figure} {ls : List S.Line} → Ordered S ls → Pairwise (λ a b. T (S.before a b)) ls
ordered_pairs ordered_nil = Pairwise.nil
ordered_pairs {S} (ordered_cons h o) = pairs_cons (λ a b. T_prop (S.before a b)) h (ordered_pairs o)

module _ (S : Figure) where
  pub ordered_head : {a : S.Line} {ls : List S.Line} → Ordered S (a ∷ ls) → (b : S.Line) → Memᴰ b ls → T (S.before a b)
  ordered_head (ordered_cons h o) = h

  pub ordered_tail : {a : S.Line} {ls : List S.Line} → Ordered S (a ∷ ls) → Ordered S ls
  ordered_tail (ordered_cons h o) = o

  pub ordered_sublist : {es ls : List S.Line} → Sublistᴰ es ls → Ordered S ls → Ordered S es
  ordered_sublist Sublistᴰ.slnil o = o
  ordered_sublist (Sublistᴰ.cons s) (ordered_cons h o) = ordered_sublist s o
  ordered_sublist (Sublistᴰ.cons-cons e s) (ordered_cons h o) =
      ordered_cons (λ b m. subst (λ (c : S.Line). T (S.before c b)) (sym e) (h b (sublist_mem s m))) (ordered_sublist s o)

  pub ordered_at : (ls : List S.Line) → Ordered S ls → (d : S.Line) (i j : ℕ) → i < j → j < length ls → T (S.before (get_or ls i d) (get_or ls j d))
  ordered_at [] o d i j p q = absurd (not-suc-le-zero q)
  ordered_at (a ∷ ls) o d i zero p q = absurd (not-suc-le-zero p)
  ordered_at (a ∷ ls) o d zero (suc j) p q = ordered_head o (get_or ls j d) (mem_at ls j d (le_of_suc-le-suc q))
  ordered_at (a ∷ ls) o d (suc i) (suc j) p q = ordered_at ls (ordered_tail o) d i j (le_of_suc-le-suc p) (le_of_suc-le-suc q)

  pub ordered_left : (ls rs : List S.Line) → Ordered S (ls ++ rs) → Ordered S ls
  ordered_left [] rs o = ordered_nil
  ordered_left (a ∷ ls) rs o = ordered_cons (λ b m. ordered_head o b (Memᴰ.append_left rs m)) (ordered_left ls rs (ordered_tail o))

  pub ordered_right : (ls rs : List S.Line) → Ordered S (ls ++ rs) → Ordered S rs
  ordered_right [] rs o = o
  ordered_right (a ∷ ls) rs o = ordered_right ls rs (ordered_tail o)

  pub ordered_apart : (ls rs : List S.Line) → Ordered S (ls ++ rs) → (a b : S.Line) → Memᴰ a ls → Memᴰ b rs → T (S.before a b)
  ordered_apart [] rs o a b m n = absurd (Memᴰ.not-nil m)
  ordered_apart (l ∷ ls) rs o a b m n =
      ⊎_elim
      (λ (e : a ≡ l). subst (λ (c : S.Line). T (S.before c b)) (sym e) (ordered_head o b (Memᴰ.append_right ls n)))
      (λ m'. ordered_apart ls rs (ordered_tail o) a b m' n)
      (Memᴰ.cases_cons m)

  pub ordered_append :
      (ls rs : List S.Line) → Ordered S ls → Ordered S rs → ((a b : S.Line) → Memᴰ a ls → Memᴰ b rs → T (S.before a b)) → Ordered S (ls ++ rs)
  ordered_append [] rs o p h = p
  ordered_append (l ∷ ls) rs o p h =
      ordered_cons
      (λ b m. ⊎_elim (ordered_head o b) (λ n. h l b (Memᴰ.head refl) n) (Memᴰ.append_cases ls m))
      (ordered_append ls rs (ordered_tail o) p (λ a b m n. h a b (Memᴰ.tail m) n))

  ordered_onto :
      (ls rs : List S.Line) →
      Ordered S ls →
      Ordered (mirror S) rs →
      ((a b : S.Line) → Memᴰ a ls → Memᴰ b rs → T (S.before b a)) →
      Ordered (mirror S) (reverse_aux ls rs)
  ordered_onto [] rs o p h = p
  ordered_onto (l ∷ ls) rs o p h =
      ordered_onto ls (l ∷ rs) (ordered_tail o) (ordered_cons (λ b m. h l b (Memᴰ.head refl) m) p)
      (λ a b m n.
      ⊎_elim (λ (e : b ≡ l). subst (λ (c : S.Line). T (S.before c a)) (sym e) (ordered_head o a m)) (h a b (Memᴰ.tail m)) (Memᴰ.cases_cons n))

  pub ordered_reverse : (ls : List S.Line) → Ordered S ls → Ordered (mirror S) (reverse ls)
  ordered_reverse ls o = ordered_onto ls [] o ordered_nil (λ a b m n. absurd (Memᴰ.not-nil n))

module _ (S : Figure) (L : PseudoLines S) where
  pub before_other : (a b : S.Line) → T (S.before a b) → a ≢ b
  before_other a b p e = L.before_irrefl b (subst (λ (c : S.Line). T (S.before c b)) e p)

  pub either_other : (a b : S.Line) → T (S.before a b) ⊎ T (S.before b a) → b ≢ a
  either_other a b (inl p) q = before_other a b p (sym q)
  either_other a b (inr p) q = before_other b a p q

  pub not_both : (a b : S.Line) → T (S.before a b) → T (S.before b a) → ⊥
  not_both a b p q = L.before_irrefl a (L.before_trans a b a p q)

  -- two lines of an ordered list are one, or one of them is before the other
  pub compare_lines : {ls : List S.Line} → Ordered S ls → {a b : S.Line} → Memᴰ a ls → Memᴰ b ls →
      (a ≡ b) ⊎ (T (S.before a b) ⊎ T (S.before b a))
  compare_lines ordered_nil {a = a} {b = b} m n = elim m [ ]
  compare_lines (ordered_cons {a = l} {ls = ls} h o) {a} {b} m n = step (Memᴰ.cases_cons m) (Memᴰ.cases_cons n) (λ m' n'. compare_lines o m' n')
    where
      step : (a ≡ l) ⊎ Memᴰ a ls → (b ≡ l) ⊎ Memᴰ b ls → (Memᴰ a ls → Memᴰ b ls → (a ≡ b) ⊎ (T (S.before a b) ⊎ T (S.before b a))) →
          (a ≡ b) ⊎ (T (S.before a b) ⊎ T (S.before b a))
      step (inl p) (inl q) ih = inl (p ∙ sym q)
      step (inl p) (inr n') ih = inr (inl (subst (λ (c : S.Line). T (S.before c b)) (sym p) (h b n')))
      step (inr m') (inl q) ih = inr (inr (subst (λ (c : S.Line). T (S.before c a)) (sym q) (h a m')))
      step (inr m') (inr n') ih = ih m' n'

  -- two ordered lists with the same members are one list
  pub same_members :
      (es fs : List S.Line) → Ordered S es → Ordered S fs → ((a : S.Line) → Memᴰ a es → Memᴰ a fs) →
      ((a : S.Line) → Memᴰ a fs → Memᴰ a es) → es ≡ fs
  same_members [] [] o p to from = refl
  same_members [] (f ∷ fs) o p to from = absurd (Memᴰ.not-nil (from f (Memᴰ.head refl)))
  same_members (e ∷ es) [] o p to from = absurd (Memᴰ.not-nil (to e (Memᴰ.head refl)))
  same_members (e ∷ es) (f ∷ fs) o p to from =
      ap₂ {C = List S.Line} (λ (a : S.Line) (l : List S.Line). a ∷ l) heads
      (same_members es fs (ordered_tail S o) (ordered_tail S p)
      (λ a m. ⊎_elim (λ (q : a ≡ f). absurd (before_other e a (ordered_head S o a m) (heads ∙ sym q))) (λ n. n)
      (Memᴰ.cases_cons (to a (Memᴰ.tail m))))
      (λ a m. ⊎_elim (λ (q : a ≡ e). absurd (before_other f a (ordered_head S p a m) (sym heads ∙ sym q))) (λ n. n)
      (Memᴰ.cases_cons (from a (Memᴰ.tail m)))))
    where
      heads : e ≡ f
      heads =
          ⊎_elim
          (λ (q : e ≡ f). q)
          (λ m. ⊎_elim (λ (q : f ≡ e). sym q) (λ n. absurd (not_both e f (ordered_head S o f n) (ordered_head S p e m)))
          (Memᴰ.cases_cons (from f (Memᴰ.head refl))))
          (Memᴰ.cases_cons (to e (Memᴰ.head refl)))
