-- What a line that joins a list in order, or leaves it, does to the first of each rate.
use Rattle.std.proofs.Common.{arith, sym, ◌∙◌, ap, subst, inl, inr, ⊎_elim}
use Rattle.std.specs.Prelude.{◌≡◌, ◌⊎◌, ◌≢◌}
use mathlib.Core.List.Memᴰ
use mathlib.Core.List.{List, Memᴰ}
use Rattle.std.proofs.Math.Option.{some}
use Rattle.lists.specs.Firsts.{firsts}
use Rattle.integers.specs.Parts.{int_rules}
use Rattle.offers.specs.Offers.{Offer}
use Rattle.offers.specs.Order.{Ahead, ahead_asym, ahead_trans}
use Rattle.plain.specs.FirstLaws.{by_rate, laws, Standing, other, standing_decide, FirstOf, firsts_ordered, one_of_rate}
use Rattle.plain.specs.FirstLaws.{first_said, first_meant, firsts_are}
use Rattle.dynamic.specs.Valid.{placed, without, instead, SamePlace}
use Rattle.dynamic.specs.Placed.{New, placed_mem, placed_ordered, without_ordered, instead_ordered, in_placed, in_instead, in_without}

module _ (A : Type 0) (of : A → Offer) where
  -- the first of each rate
  abbrev pub firsts_of : List A → List A
  firsts_of os = firsts (by_rate A of).before os

  -- ---- lines of one rate have one place

  pub same_place : (a b : A) → (of a).rate ≡ (of b).rate → SamePlace (by_rate A of) a b
  same_place a b e = record { ahead = λ x t. omega (arith, int_rules); behind = λ x t. omega (arith, int_rules) }

  -- b is first where f was, and the others stay
  first_instead : (os : List A) {os' : List A} {f b : A} → Standing A of os' → Memᴰ f (firsts_of os) → (of f).rate ≡ (of b).rate → FirstOf A of os' b →
      ((e : A) → Memᴰ e (firsts_of os) → e ≢ f → FirstOf A of os' e) →
      ((e : A) → FirstOf A of os' e → (e ≡ b) ⊎ (Memᴰ e (firsts_of os) × (e ≢ f))) → firsts_of os' ≡ instead (by_rate A of) f (some b) (firsts_of os)
  first_instead os {os'} {f} {b} s i r h stay were =
      firsts_are A of s (instead (by_rate A of) f (some b) (firsts_of os))
      (instead_ordered (by_rate A of) (laws A of) f (some b) (firsts_ordered A of os) i (same_place f b r)) to from
    where
      to : (e : A) → Memᴰ e (instead (by_rate A of) f (some b) (firsts_of os)) → FirstOf A of os' e
      to e m =
          ⊎_elim
          (λ n. ⊎_elim (λ (q : e ≡ b). subst (FirstOf A of os') (sym q) h) (λ z. absurd (Memᴰ.not-nil z)) (Memᴰ.cases_cons n))
          (λ w. stay e w.0 w.1)
          ((in_instead (by_rate A of) (laws A of) f (some b) (firsts_ordered A of os) i e).0 m)

      from : (e : A) → FirstOf A of os' e → Memᴰ e (instead (by_rate A of) f (some b) (firsts_of os))
      from e k =
          (in_instead (by_rate A of) (laws A of) f (some b) (firsts_ordered A of os) i e).1 (⊎_elim (λ q. inl (Memᴰ.head q)) inr (were e k))

  -- ---- a line joins

  -- os' has one line more
  pub record Joins (o : A) (os os' : List A) : Type 0 where
    pub standing : Standing A of os
    pub standing' : Standing A of os'
    pub there : (x : A) → Memᴰ x os' → (x ≡ o) ⊎ Memᴰ x os
    pub new : Memᴰ o os'
    pub old : (x : A) → Memᴰ x os → Memᴰ x os'

  module _ {o : A} {os os' : List A} (j : Joins o os os') where
    -- who was there and is first now was first
    was_first : (e : A) → Memᴰ e os → FirstOf A of os' e → Memᴰ e (firsts_of os)
    was_first e m h = first_meant A of j.standing e (record { live = m; first = λ x n. h.first x (j.old x n) })

    -- who was first stays, where the new one is not in front
    stays_first : (e : A) → FirstOf A of os e → ((of o).rate ≡ (of e).rate → (o ≡ e) ⊎ Ahead (of e) (of o)) → FirstOf A of os' e
    stays_first e h behind =
        record { live = j.old e h.live; first = λ x n r. ⊎_elim (λ q. itself x q r) (λ m. h.first x m r) (j.there x n) }
      where
        itself : (x : A) → x ≡ o → (of x).rate ≡ (of e).rate → (x ≡ e) ⊎ Ahead (of e) (of x)
        itself x q r = subst (λ y. (y ≡ e) ⊎ Ahead (of e) (of y)) (sym q) (behind (ap (λ y. (of y).rate) (sym q) ∙ r))

    -- a new rate: the line is placed
    pub joins_new :
        ((x : A) → Memᴰ x os → (of x).rate ≢ (of o).rate) → New (by_rate A of) o (firsts_of os) → firsts_of os' ≡ placed (by_rate A of) o (firsts_of os)
    joins_new none_there new =
        firsts_are A of j.standing' (placed (by_rate A of) o (firsts_of os))
        (placed_ordered (by_rate A of) (laws A of) o (firsts_of os) (firsts_ordered A of os) new) to from
      where
        itself : FirstOf A of os' o
        itself = record { live = j.new; first = λ x n r. ⊎_elim inl (λ m. absurd (none_there x m r)) (j.there x n) }

        to : (e : A) → Memᴰ e (placed (by_rate A of) o (firsts_of os)) → FirstOf A of os' e
        to e m =
            ⊎_elim
            (λ (q : e ≡ o). subst (FirstOf A of os') (sym q) itself)
            (λ n. let f = first_said A of j.standing e n in stays_first e f (λ r. absurd (none_there e f.live (sym r))))
            (placed_mem (by_rate A of) o (firsts_of os) e m)

        from : (e : A) → FirstOf A of os' e → Memᴰ e (placed (by_rate A of) o (firsts_of os))
        from e h = in_placed (by_rate A of) o (firsts_of os) e (⊎_elim inl (λ m. inr (was_first e m h)) (j.there e h.live))

    -- ahead of its rate's first: it comes in its place
    pub joins_ahead : (f : A) → Memᴰ f (firsts_of os) → (of f).rate ≡ (of o).rate → Ahead (of o) (of f) →
        firsts_of os' ≡ instead (by_rate A of) f (some o) (firsts_of os)
    joins_ahead f i r k = first_instead os j.standing' i r itself stay were
      where
        -- it is ahead of all of its rate, as f was
        behind : (x : A) → Memᴰ x os → (of x).rate ≡ (of o).rate → Ahead (of o) (of x)
        behind x m d =
            ⊎_elim (λ (q : x ≡ f). subst (λ y. Ahead (of o) (of y)) (sym q) k) (λ u. ahead_trans k u)
            ((first_said A of j.standing f i).first x m (d ∙ sym r))

        itself : FirstOf A of os' o
        itself = record { live = j.new; first = λ x n d. ⊎_elim inl (λ m. inr (behind x m d)) (j.there x n) }

        not_f : FirstOf A of os' f → ⊥
        not_f h = ⊎_elim (other A of k) (ahead_asym k) (h.first o j.new (sym r))

        stay : (e : A) → Memᴰ e (firsts_of os) → e ≢ f → FirstOf A of os' e
        stay e m d = stays_first e (first_said A of j.standing e m) (λ q. absurd (d (one_of_rate A of os m i (sym q ∙ sym r))))

        were : (e : A) → FirstOf A of os' e → (e ≡ o) ⊎ (Memᴰ e (firsts_of os) × (e ≢ f))
        were e h = ⊎_elim inl (λ m. inr (was_first e m h, λ q. not_f (subst (FirstOf A of os') q h))) (j.there e h.live)

    -- behind its rate's first: nothing changes
    pub joins_behind : (f : A) → Memᴰ f (firsts_of os) → (of f).rate ≡ (of o).rate → Ahead (of f) (of o) → firsts_of os' ≡ firsts_of os
    joins_behind f i r k = firsts_are A of j.standing' (firsts_of os) (firsts_ordered A of os) to from
      where
        not_o : FirstOf A of os' o → ⊥
        not_o h = ⊎_elim (other A of k) (ahead_asym k) (h.first f (j.old f (first_said A of j.standing f i).live) r)

        to : (e : A) → Memᴰ e (firsts_of os) → FirstOf A of os' e
        to e m =
            stays_first e (first_said A of j.standing e m) (λ d. inr (subst (λ y. Ahead (of y) (of o)) (one_of_rate A of os i m (r ∙ d)) k))

        from : (e : A) → FirstOf A of os' e → Memᴰ e (firsts_of os)
        from e h = ⊎_elim (λ q. absurd (not_o (subst (FirstOf A of os') q h))) (λ m. was_first e m h) (j.there e h.live)

  -- ---- a line leaves

  pub record Leaves (a : A) (os os' : List A) : Type 0 where
    pub standing : Standing A of os
    pub standing' : Standing A of os'
    pub live : Memᴰ a os
    pub there : (x : A) → Memᴰ x os' → Memᴰ x os × (x ≢ a)
    pub others : (x : A) → Memᴰ x os → x ≢ a → Memᴰ x os'

  module _ {a : A} {os os' : List A} (l : Leaves a os os') where
    -- who was first and is still there is first
    still_first : (e : A) → Memᴰ e (firsts_of os) → e ≢ a → FirstOf A of os' e
    still_first e m d =
        let h = first_said A of l.standing e m in record { live = l.others e h.live d; first = λ x n. h.first x (l.there x n).0 }

    -- who is first now was first, where the one that left is not ahead of it
    first_before : (e : A) → FirstOf A of os' e → ((of a).rate ≡ (of e).rate → Ahead (of e) (of a)) → Memᴰ e (firsts_of os)
    first_before e h behind =
        first_meant A of l.standing e
        (record {
          live = (l.there e h.live).0;
          first = λ x n r. ⊎_elim (λ q. inr (the_one x q r)) (λ d. h.first x (l.others x n d) r) (standing_decide A of l.standing n l.live);
        })
      where
        the_one : (x : A) → x ≡ a → (of x).rate ≡ (of e).rate → Ahead (of e) (of x)
        the_one x q r = subst (λ y. Ahead (of e) (of y)) (sym q) (behind (ap (λ y. (of y).rate) (sym q) ∙ r))

    -- not the first of its rate: nothing changes
    pub leaves_behind : (f : A) → Memᴰ f (firsts_of os) → (of f).rate ≡ (of a).rate → f ≢ a → firsts_of os' ≡ firsts_of os
    leaves_behind f i r d = firsts_are A of l.standing' (firsts_of os) (firsts_ordered A of os) to (λ e h. first_before e h (behind e h))
      where
        f_first : FirstOf A of os f
        f_first = first_said A of l.standing f i

        f_ahead : Ahead (of f) (of a)
        f_ahead = ⊎_elim (λ q. absurd (d (sym q))) (λ u. u) (f_first.first a l.live (sym r))

        to : (e : A) → Memᴰ e (firsts_of os) → FirstOf A of os' e
        to e m = still_first e m (λ q. d (one_of_rate A of os i m (r ∙ ap (λ y. (of y).rate) (sym q)) ∙ q))

        behind : (e : A) → FirstOf A of os' e → (of a).rate ≡ (of e).rate → Ahead (of e) (of a)
        behind e h q =
            ⊎_elim (λ (p : f ≡ e). subst (λ y. Ahead (of y) (of a)) p f_ahead) (λ u. ahead_trans u f_ahead)
            (h.first f (l.others f f_first.live d) (r ∙ q))

    module _ (i : Memᴰ a (firsts_of os)) where
      -- the first, with a follower: that one comes in its place
      pub leaves_to : (b : A) → FirstOf A of os' b → (of a).rate ≡ (of b).rate → firsts_of os' ≡ instead (by_rate A of) a (some b) (firsts_of os)
      leaves_to b hb r = first_instead os l.standing' i r hb still_first were
        where
          -- of its rate b is the only first
          another_rate : (e : A) → FirstOf A of os' e → e ≢ b → (of a).rate ≢ (of e).rate
          another_rate e h d q = d (one_of_rate A of os' (first_meant A of l.standing' e h) (first_meant A of l.standing' b hb) (sym q ∙ r))

          were : (e : A) → FirstOf A of os' e → (e ≡ b) ⊎ (Memᴰ e (firsts_of os) × (e ≢ a))
          were e h =
              ⊎_elim inl (λ d. inr (first_before e h (λ q. absurd (another_rate e h d q)), (l.there e h.live).1))
              (standing_decide A of l.standing' h.live hb.live)

      -- the only one of its rate: it is taken out
      pub leaves_alone : ((x : A) → Memᴰ x os' → (of a).rate ≢ (of x).rate) → firsts_of os' ≡ without (by_rate A of) a (firsts_of os)
      leaves_alone none_left =
          firsts_are A of l.standing' (without (by_rate A of) a (firsts_of os)) (without_ordered (by_rate A of) a (firsts_ordered A of os)) to from
        where
          to : (e : A) → Memᴰ e (without (by_rate A of) a (firsts_of os)) → FirstOf A of os' e
          to e m = let w = (in_without (by_rate A of) (laws A of) a (firsts_ordered A of os) i e).0 m in still_first e w.0 w.1

          from : (e : A) → FirstOf A of os' e → Memᴰ e (without (by_rate A of) a (firsts_of os))
          from e h =
              (in_without (by_rate A of) (laws A of) a (firsts_ordered A of os) i e).1
              (first_before e h (λ q. absurd (none_left e h.live q)), (l.there e h.live).1)
