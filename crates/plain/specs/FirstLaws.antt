-- The first of each rate of a list in order: which they are. The list is one of offers, or of whatever holds an offer, as an item in a slot does.
use Rattle.std.proofs.Common.{arith, sym, ◌∙◌, ap, ap₂, subst, inl, inr, ⊎_elim, T_not}
use Rattle.std.specs.Prelude.{◌≡◌, refl, ◌⊎◌, ◌↔◌, ◌≢◌, not, T, ℤ}
use mathlib.Core.List.Memᴰ
use mathlib.Core.List.{List, [], ◌∷◌, map, Memᴰ, Sublistᴰ}
use mathlib.Core.List.Pairwise
use mathlib.Core.List.{Pairwise}
use Rattle.std.proofs.Math.Dec.{T_prop, not_T}
use Rattle.std.specs.Int.Signed.{lt_z}
use Rattle.lists.specs.Filter.{keep_in}
use Rattle.lists.specs.Firsts.{firsts, firsts_sub, firsts_pairs}
use Rattle.lists.specs.Members.{decide_true, pairs_cons}
use Rattle.lists.specs.Places.{sublist_mem}
use Rattle.integers.specs.Parts.{int_rules}
use Rattle.offers.specs.Offers.{Offer, ahead}
use Rattle.offers.specs.Order.{Ahead, ahead_said, ahead_meant, ahead_asym, ahead_other, compare_offers, rate_falls}
use Rattle.envelopes.specs.PseudoLines.{Figure, PseudoLines}
use Rattle.envelopes.specs.Envelope.{Ordered, ordered_nil, ordered_cons}
use Rattle.envelopes.specs.EnvelopeLaws.{compare_lines, same_members}
use Rattle.lines.specs.Lines.{line_figure}
use Rattle.lines.proofs.Lines.{line_laws}
use Rattle.plain.specs.Book.{join}
use Rattle.plain.specs.Meaning.{FirstOfRate}

-- lines in order, said of all pairs
pub pairs_ordered : {S : Figure} {ls : List S.Line} → Pairwise (λ a b. T (S.before a b)) ls → Ordered S ls
pairs_ordered Pairwise.nil = ordered_nil
pairs_ordered (Pairwise.cons h p) = ordered_cons (λ b m. h b ∣ m ∣₁) (pairs_ordered p)

module _ (A : Type 0) (of : A → Offer) where
  -- lines of falling rate
  abbrev pub by_rate : Figure
  by_rate = line_figure A (λ a. (of a).rate) (λ a. (of a).base)

  pub laws : PseudoLines by_rate
  laws = line_laws A (λ a. (of a).rate) (λ a. (of a).base)

  -- They stand in order, each ahead of all later ones.
  pub data Standing : List A → Type 0 where
    standing_nil : Standing []
    standing_cons : {a : A} {ls : List A} → ((b : A) → Memᴰ b ls → Ahead (of a) (of b)) → Standing ls → Standing (a ∷ ls)

  -- One of them is the first of its rate.
  pub record FirstOf (os : List A) (e : A) : Type 0 where
    pub live : Memᴰ e os
    pub first : (x : A) → Memᴰ x os → (of x).rate ≡ (of e).rate → (x ≡ e) ⊎ Ahead (of e) (of x)

  -- ---- the order by the test

  pub standing_pairs : {xs : List A} → Standing xs → Pairwise (λ a b. T (ahead (of a) (of b))) xs
  standing_pairs standing_nil = Pairwise.nil
  standing_pairs (standing_cons {a} h s) =
      pairs_cons (λ x y. T_prop (ahead (of x) (of y))) (λ b m. ahead_meant (of a) (of b) (h b m)) (standing_pairs s)

  pub pairs_standing : {xs : List A} → Pairwise (λ a b. T (ahead (of a) (of b))) xs → Standing xs
  pairs_standing Pairwise.nil = standing_nil
  pairs_standing (Pairwise.cons {a} h p) = standing_cons (λ b m. ahead_said (of a) (of b) (h b ∣ m ∣₁)) (pairs_standing p)

  pub standing_sub : {xs ys : List A} → Sublistᴰ xs ys → Standing ys → Standing xs
  standing_sub k s = pairs_standing (Pairwise.sublistᴰ k (standing_pairs s))

  pub other : {p q : A} → Ahead (of p) (of q) → p ≢ q
  other k e = ahead_other k (ap of e)

  -- two members of a list in order are one, or one stands ahead of the other
  pub standing_compare : {os : List A} → Standing os → {x y : A} → Memᴰ x os → Memᴰ y os → (x ≡ y) ⊎ (Ahead (of x) (of y) ⊎ Ahead (of y) (of x))
  standing_compare standing_nil m n = absurd (Memᴰ.not-nil m)
  standing_compare (standing_cons {a} h s) {x} {y} m n =
      ⊎_elim
      (λ (p : x ≡ a). ⊎_elim (λ (q : y ≡ a). inl (p ∙ sym q)) (λ j. inr (inl (subst (λ (z : A). Ahead (of z) (of y)) (sym p) (h y j))))
      (Memᴰ.cases_cons n))
      (λ i. ⊎_elim (λ (q : y ≡ a). inr (inr (subst (λ (z : A). Ahead (of z) (of x)) (sym q) (h x i)))) (λ j. standing_compare s i j)
      (Memᴰ.cases_cons n))
      (Memᴰ.cases_cons m)

  pub standing_decide : {os : List A} → Standing os → {x y : A} → Memᴰ x os → Memᴰ y os → (x ≡ y) ⊎ (x ≢ y)
  standing_decide s m n = ⊎_elim inl (λ u. inr (⊎_elim other (λ k e. other k (sym e)) u)) (standing_compare s m n)

  -- with one offer they are one
  pub standing_one : {os : List A} → Standing os → {x y : A} → Memᴰ x os → Memᴰ y os → of x ≡ of y → x ≡ y
  standing_one s m n e =
      ⊎_elim (λ d. d) (⊎_elim (λ k. absurd (ahead_other k e)) (λ k. absurd (ahead_other k (sym e)))) (standing_compare s m n)

  -- the members decide a list in order
  pub standing_same :
      {xs ys : List A} → Standing xs → Standing ys → ((x : A) → Memᴰ x xs → Memᴰ x ys) → ((x : A) → Memᴰ x ys → Memᴰ x xs) → xs ≡ ys
  standing_same standing_nil standing_nil to from = refl
  standing_same standing_nil (standing_cons {a} h s) to from = absurd (Memᴰ.not-nil (from a (Memᴰ.head refl)))
  standing_same (standing_cons {a} h s) standing_nil to from = absurd (Memᴰ.not-nil (to a (Memᴰ.head refl)))
  standing_same (standing_cons {a} {ls} h s) (standing_cons {a = b} {ls = ms} k t) to from =
      ap₂ {C = List A} (λ (x : A) (l : List A). x ∷ l) heads
      (standing_same s t
      (λ x m. ⊎_elim (λ (q : x ≡ b). absurd (other (h x m) (heads ∙ sym q))) (λ n. n) (Memᴰ.cases_cons (to x (Memᴰ.tail m))))
      (λ x m. ⊎_elim (λ (q : x ≡ a). absurd (other (k x m) (sym heads ∙ sym q))) (λ n. n) (Memᴰ.cases_cons (from x (Memᴰ.tail m)))))
    where
      heads : a ≡ b
      heads =
          ⊎_elim (λ (q : a ≡ b). q)
          (λ m. ⊎_elim (λ (q : b ≡ a). sym q) (λ n. absurd (ahead_asym (h b n) (k a m))) (Memᴰ.cases_cons (from b (Memᴰ.head refl))))
          (Memᴰ.cases_cons (to a (Memᴰ.head refl)))

  -- ---- the firsts of any list

  pub firsts_ordered : (os : List A) → Ordered by_rate (firsts by_rate.before os)
  firsts_ordered os = pairs_ordered (firsts_pairs by_rate.before os)

  -- of one rate there is one
  pub one_of_rate : (os : List A) {f g : A} → Memᴰ f (firsts by_rate.before os) → Memᴰ g (firsts by_rate.before os) →
      (of f).rate ≡ (of g).rate → f ≡ g
  one_of_rate os {f} {g} m n e =
      ⊎_elim (λ d. d) (⊎_elim (λ t. absurd (no_rate e t)) (λ t. absurd (no_rate (sym e) t))) (compare_lines by_rate laws (firsts_ordered os) m n)
    where
      no_rate : {p q : ℤ} → p ≡ q → T (lt_z q p) → ⊥
      no_rate d t = omega (arith, int_rules)

  -- ---- and of a list in order

  -- A first of the same rate, the one itself or ahead of it.
  pub record Covered (os : List A) (x : A) : Type 0 where
    pub by : A
    pub one_of : Memᴰ by (firsts by_rate.before os)
    pub rate : (of by).rate ≡ (of x).rate
    pub no_later : (by ≡ x) ⊎ Ahead (of by) (of x)

  -- each has one
  pub cover : {os : List A} → Standing os → (x : A) → Memᴰ x os → Covered os x
  cover standing_nil x m = absurd (Memᴰ.not-nil m)
  cover (standing_cons {a} {ls} h s) x m =
      ⊎_elim (λ (e : x ≡ a). record { by = a; one_of = Memᴰ.head refl; rate = ap (λ (y : A). (of y).rate) (sym e); no_later = inl (sym e) })
      (λ n. go n (cover s x n)) (Memᴰ.cases_cons m)
    where
      same : {p q : Offer} {r : ℤ} → Ahead p q → r ≡ q.rate → T (not (lt_z r p.rate)) → p.rate ≡ q.rate
      same k e t = let l = rate_falls k in omega (arith, int_rules)

      go : Memᴰ x ls → Covered ls x → Covered (a ∷ ls) x
      go n c =
          elim (decide_true (by_rate.before a c.by)) [
            | yes t ↦ record {
              by = c.by;
              one_of = Memᴰ.tail (keep_in (by_rate.before a) (firsts by_rate.before ls) c.by c.one_of t);
              rate = c.rate;
              no_later = c.no_later;
            }
            | no t ↦ record {
              by = a;
              one_of = Memᴰ.head refl;
              rate = same (h x n) c.rate (not_T (by_rate.before a c.by) t);
              no_later = inr (h x n);
            }
          ]

  module _ {os : List A} (s : Standing os) where
    pub first_said : (e : A) → Memᴰ e (firsts by_rate.before os) → FirstOf os e
    first_said e m =
        record {
          live = sublist_mem (firsts_sub by_rate.before os) m;
          first = λ x n d.
              let c = cover s x n in
              let q : c.by ≡ e = one_of_rate os c.one_of m (c.rate ∙ d) in
              ⊎_elim (λ p. inl (sym p ∙ q)) (λ p. inr (subst (λ (y : A). Ahead (of y) (of x)) q p)) c.no_later;
        }

    pub first_meant : (e : A) → FirstOf os e → Memᴰ e (firsts by_rate.before os)
    first_meant e h = subst (λ (y : A). Memᴰ y (firsts by_rate.before os)) same c.one_of
      where
        c : Covered os e
        c = cover s e h.live

        same : c.by ≡ e
        same =
            ⊎_elim (λ p. p)
            (λ p. ⊎_elim (λ d. d) (λ u. absurd (ahead_asym p u)) (h.first c.by (sublist_mem (firsts_sub by_rate.before os) c.one_of) c.rate))
            c.no_later

    pub firsts_exact : (e : A) → Memᴰ e (firsts by_rate.before os) ↔ FirstOf os e
    firsts_exact e = (first_said e, first_meant e)

    -- lines of falling rate that are the firsts are the list of the firsts
    pub firsts_are :
        (ms : List A) → Ordered by_rate ms → ((e : A) → Memᴰ e ms → FirstOf os e) → ((e : A) → FirstOf os e → Memᴰ e ms) →
        firsts by_rate.before os ≡ ms
    firsts_are ms o to from =
        same_members by_rate laws (firsts by_rate.before os) ms (firsts_ordered os) o (λ e m. from e (first_said e m)) (λ e m. first_meant e (to e m))

-- ---- a list of what holds an offer, and the list of the offers

abbrev pub self : Offer → Offer
self o = o

pub standing_map : {A : Type 0} (of : A → Offer) {xs : List A} → Standing A of xs ↔ Standing Offer self (map of xs)
standing_map {A} of = (
  λ s. pairs_standing Offer self (Pairwise.map (λ x y. T_prop (ahead x y)) of (λ x y t. t) (standing_pairs A of s)),
  λ s. pairs_standing A of (Pairwise.of_map of (λ x y t. t) (standing_pairs Offer self s)),
)

-- ---- offers

-- The first of a rate in the words of `Meaning`.
pub first_of_rate : (os : List Offer) (e : Offer) → FirstOf Offer self os e ↔ FirstOfRate os e
first_of_rate os e = (
  λ f. record { live = f.live; first = λ o m r. not_T (ahead o e) (λ t. behind (ahead_said o e t) (f.first o m r)) },
  λ f. record { live = f.live; first = λ o m r. apart (f.first o m r) (compare_offers o e) },
)
  where
    behind : {o : Offer} → Ahead o e → (o ≡ e) ⊎ Ahead e o → ⊥
    behind k (inl d) = ahead_other k d
    behind k (inr u) = ahead_asym k u

    apart : {o : Offer} → T (not (ahead o e)) → (o ≡ e) ⊎ (Ahead o e ⊎ Ahead e o) → (o ≡ e) ⊎ Ahead e o
    apart t (inl d) = inl d
    apart {o} t (inr (inl k)) = absurd (T_not (ahead o e) t (ahead_meant o e k))
    apart t (inr (inr k)) = inr k
