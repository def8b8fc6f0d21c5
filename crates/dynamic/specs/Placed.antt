-- A line placed into a list in order, taken out of it, or put in the place of another: in which part of a list that happens, who is there then, and that
-- the order stays.
use Rattle.std.specs.Prelude.{◌≡◌, refl, ◌⊎◌, ◌↔◌, ◌≢◌, Bool, true, false, not, ◌||◌, cond, T}
use Rattle.std.proofs.Common.{sym, ap, ap₂, subst, ◌∙◌, inl, inr, ⊎_elim, T_not}
use mathlib.Core.List.Memᴰ
use mathlib.Core.List.{List, [], ◌∷◌, ◌++◌, Memᴰ}
use mathlib.Core.List.Permᴰ
use mathlib.Core.List.Sublistᴰ
use mathlib.Core.List.{append_assoc, append-nil, Permᴰ, Sublistᴰ}
use Rattle.std.proofs.Math.Option.{Option, none, some}
use Rattle.std.proofs.Math.Dec.{not_T}
use Rattle.lists.specs.Filter.{keep_sublist}
use Rattle.lists.specs.Places.{mem_split}
use Rattle.lists.specs.Bools.{or_cases, or_left, or_right, cond_both, cond_yes, cond_no}
use Rattle.envelopes.specs.PseudoLines.{Figure, PseudoLines}
use Rattle.envelopes.specs.Envelope.{Ordered, ordered_nil, ordered_cons}
use Rattle.envelopes.specs.EnvelopeLaws.{ordered_head, ordered_tail, ordered_left, ordered_right, ordered_apart, ordered_append, ordered_sublist}
use Rattle.envelopes.specs.EnvelopeLaws.{ordered_pairs, before_other}
use Rattle.trees.specs.Tree.{Tree, leaves, last}
use Rattle.trees.specs.Order.{up_to_last}
use Rattle.dynamic.specs.Valid.{placed, without, stand_in, instead, Fits}

module _ (S : Figure) (s : S.Line) where
  -- ---- place

  -- in front of some line of the first part
  pub placed_left : (xs ys : List S.Line) {x : S.Line} → Memᴰ x xs → T (S.before s x) → placed S s (xs ++ ys) ≡ placed S s xs ++ ys
  placed_left [] ys m t = absurd (Memᴰ.not-nil m)
  placed_left (p ∷ ps) ys {x} m t = step (S.before s p) refl (Memᴰ.cases_cons m) (λ n. placed_left ps ys n t)
    where
      step :
          (b : Bool) → S.before s p ≡ b → (x ≡ p) ⊎ Memᴰ x ps → (Memᴰ x ps → placed S s (ps ++ ys) ≡ placed S s ps ++ ys) →
          cond b (s ∷ p ∷ (ps ++ ys)) (p ∷ placed S s (ps ++ ys)) ≡ cond b (s ∷ p ∷ ps) (p ∷ placed S s ps) ++ ys
      step true e i ih = refl
      step false e (inl q) ih = absurd (subst T e (subst (λ y. T (S.before s y)) q t))
      step false e (inr n) ih = ap (λ l. p ∷ l) (ih n)

  -- behind all of the first part
  pub placed_right : (xs ys : List S.Line) → ((x : S.Line) → Memᴰ x xs → T (not (S.before s x))) → placed S s (xs ++ ys) ≡ xs ++ placed S s ys
  placed_right [] ys h = refl
  placed_right (p ∷ ps) ys h =
      cond_no (S.before s p) _ _ (h p (Memᴰ.head refl)) ∙ ap (λ l. p ∷ l) (placed_right ps ys (λ x m. h x (Memᴰ.tail m)))

  pub placed_mem : (ls : List S.Line) (x : S.Line) → Memᴰ x (placed S s ls) → (x ≡ s) ⊎ Memᴰ x ls
  placed_mem [] x m = Memᴰ.cases_cons m
  placed_mem (p ∷ ps) x m = step (S.before s p) m (placed_mem ps x)
    where
      step : (b : Bool) → Memᴰ x (cond b (s ∷ p ∷ ps) (p ∷ placed S s ps)) → (Memᴰ x (placed S s ps) → (x ≡ s) ⊎ Memᴰ x ps) →
          (x ≡ s) ⊎ Memᴰ x (p ∷ ps)
      step true n ih = Memᴰ.cases_cons n
      step false n ih = ⊎_elim (λ e. inr (Memᴰ.head e)) (λ i. ⊎_elim inl (λ j. inr (Memᴰ.tail j)) (ih i)) (Memᴰ.cases_cons n)

  pub in_placed : (ls : List S.Line) (x : S.Line) → (x ≡ s) ⊎ Memᴰ x ls → Memᴰ x (placed S s ls)
  in_placed [] x (inl e) = Memᴰ.head e
  in_placed [] x (inr m) = absurd (Memᴰ.not-nil m)
  in_placed (p ∷ ps) x h = step (S.before s p) h (in_placed ps x)
    where
      step : (b : Bool) → (x ≡ s) ⊎ Memᴰ x (p ∷ ps) → ((x ≡ s) ⊎ Memᴰ x ps → Memᴰ x (placed S s ps)) →
          Memᴰ x (cond b (s ∷ p ∷ ps) (p ∷ placed S s ps))
      step true (inl e) ih = Memᴰ.head e
      step true (inr m) ih = Memᴰ.tail m
      step false (inl e) ih = Memᴰ.tail (ih (inl e))
      step false (inr m) ih = ⊎_elim (λ e. Memᴰ.head e) (λ n. Memᴰ.tail (ih (inr n))) (Memᴰ.cases_cons m)

  -- ---- take out

  pub without_ordered : {ls : List S.Line} → Ordered S ls → Ordered S (without S s ls)
  without_ordered {ls} o = ordered_sublist S (keep_sublist (λ x. S.before s x || S.before x s) ls) o

  -- ---- put in the place of another

  pub instead_none : (ls : List S.Line) → instead S s none ls ≡ without S s ls
  instead_none [] = refl
  instead_none (x ∷ xs) = rw (instead_none xs) refl

  module _ (by : Option S.Line) where
    pub instead_append : (xs ys : List S.Line) → instead S s by (xs ++ ys) ≡ instead S s by xs ++ instead S s by ys
    instead_append [] ys = refl
    instead_append (x ∷ xs) ys = step (S.before s x || S.before x s) (instead_append xs ys)
      where
        step : (b : Bool) → instead S s by (xs ++ ys) ≡ instead S s by xs ++ instead S s by ys →
            cond b (x ∷ instead S s by (xs ++ ys)) (stand_in by ++ instead S s by (xs ++ ys))
            ≡ cond b (x ∷ instead S s by xs) (stand_in by ++ instead S s by xs) ++ instead S s by ys
        step true e = ap (λ l. x ∷ l) e
        step false e = ap (λ l. stand_in by ++ l) e ∙ sym (append_assoc (stand_in by) (instead S s by xs) (instead S s by ys))

    pub instead_all : (xs : List S.Line) → ((x : S.Line) → Memᴰ x xs → T (S.before s x || S.before x s)) → instead S s by xs ≡ xs
    instead_all [] h = refl
    instead_all (x ∷ xs) h =
        cond_yes (S.before s x || S.before x s) _ _ (h x (Memᴰ.head refl))
        ∙ ap (λ l. x ∷ l) (instead_all xs (λ a m. h a (Memᴰ.tail m)))

-- Each line is before or behind s.
abbrev pub New : (S : Figure) → S.Line → List S.Line → Type 0
New S s ls = (x : S.Line) → Memᴰ x ls → T (S.before s x) ⊎ T (S.before x s)

module _ (S : Figure) (L : PseudoLines S) (s : S.Line) where
  pub placed_ordered : (ls : List S.Line) → Ordered S ls → New S s ls → Ordered S (placed S s ls)
  placed_ordered [] o n = ordered_cons (λ b m. absurd (Memᴰ.not-nil m)) ordered_nil
  placed_ordered (p ∷ ps) o n =
      cond_both (Ordered S) (S.before s p) (λ t. ordered_cons (in_front_lem t) o)
      (λ t. ordered_cons (behind t) (placed_ordered ps (ordered_tail S o) (λ x m. n x (Memᴰ.tail m))))
    where
      in_front_lem : T (S.before s p) → (b : S.Line) → Memᴰ b (p ∷ ps) → T (S.before s b)
      in_front_lem t b m =
          ⊎_elim (λ (e : b ≡ p). subst (λ c. T (S.before s c)) (sym e) t) (λ i. L.before_trans s p b t (ordered_head S o b i)) (Memᴰ.cases_cons m)

      behind : T (not (S.before s p)) → (b : S.Line) → Memᴰ b (placed S s ps) → T (S.before p b)
      behind t b m =
          ⊎_elim
          (λ (e : b ≡ s). subst (λ c. T (S.before p c)) (sym e) (⊎_elim (λ u. absurd (T_not (S.before s p) t u)) (λ u. u) (n p (Memᴰ.head refl))))
          (ordered_head S o b) (placed_mem S s ps b m)

  -- ---- a stand-in for s

  module _ (by : Option S.Line) where
    pub instead_one : {a : S.Line} → s ≡ a → instead S s by (a ∷ []) ≡ stand_in by
    instead_one {a} e = subst (λ c. instead S s by (c ∷ []) ≡ stand_in by) e
        (cond_no (S.before s s || S.before s s) (s ∷ []) (stand_in by ++ []) (not_T (S.before s s || S.before s s)
        (λ t. L.before_irrefl s (⊎_elim (λ u. u) (λ u. u) (or_cases (S.before s s) (S.before s s) t))))
        ∙ append-nil (stand_in by))

    -- s stands between xs and ys
    instead_here : (xs ys : List S.Line) → Ordered S (xs ++ s ∷ ys) → instead S s by (xs ++ s ∷ ys) ≡ xs ++ (stand_in by ++ ys)
    instead_here xs ys o =
        instead_append S s by xs (s ∷ ys)
        ∙ ap₂ (λ l r. l ++ r)
        (instead_all S s by xs (λ x m. or_right (S.before s x) (S.before x s) (ordered_apart S xs (s ∷ ys) o x s m (Memᴰ.head refl))))
        (instead_append S s by (s ∷ []) ys
        ∙ ap₂ (λ l r. l ++ r) (instead_one refl)
        (instead_all S s by ys (λ x m. or_left (S.before s x) (S.before x s) (ordered_head S (ordered_right S xs (s ∷ ys) o) x m))))

    module _ {ls : List S.Line} (o : Ordered S ls) (m : Memᴰ s ls) where
      pub instead_ordered : Fits S s by → Ordered S (instead S s by ls)
      instead_ordered f =
          let (xs, ys, e) = mem_split m in
          let p : Ordered S (xs ++ s ∷ ys) = subst (Ordered S) e o in
          subst (λ l. Ordered S (instead S s by l)) (sym e) (subst (Ordered S) (sym (instead_here xs ys p)) (go xs ys p by f))
        where
          go : (xs ys : List S.Line) → Ordered S (xs ++ s ∷ ys) → (c : Option S.Line) → Fits S s c → Ordered S (xs ++ (stand_in c ++ ys))
          go xs ys p none g = ordered_sublist S (Sublistᴰ.append (Sublistᴰ.refl xs) (Sublistᴰ.cons (Sublistᴰ.refl ys))) p
          go xs ys p (some b) g =
              let q = ordered_right S xs (s ∷ ys) p in
              ordered_append S xs (b ∷ ys) (ordered_left S xs (s ∷ ys) p) (ordered_cons (λ x i. g.ahead x (ordered_head S q x i)) (ordered_tail S q))
              (λ x y i j. ⊎_elim
              (λ (d : y ≡ b). subst (λ z. T (S.before x z)) (sym d) (g.behind x (ordered_apart S xs (s ∷ ys) p x s i (Memᴰ.head refl))))
              (λ k. ordered_apart S xs (s ∷ ys) p x y i (Memᴰ.tail k)) (Memᴰ.cases_cons j))

      -- the stand-in, and some that were there, in another order
      pub instead_rearranged : (ms : List S.Line) × Permᴰ (instead S s by ls) (stand_in by ++ ms) × Sublistᴰ ms ls
      instead_rearranged =
          let (xs, ys, e) = mem_split m in
          let here : instead S s by ls ≡ xs ++ (stand_in by ++ ys) = ap (instead S s by) e ∙ instead_here xs ys (subst (Ordered S) e o) in (
            xs ++ ys,
            subst (λ l. Permᴰ l (stand_in by ++ (xs ++ ys))) (append_assoc xs (stand_in by) ys ∙ sym here)
                (subst (Permᴰ ((xs ++ stand_in by) ++ ys)) (append_assoc (stand_in by) xs ys)
                (Permᴰ.append_right ys (Permᴰ.append_comm xs (stand_in by)))),
            subst (Sublistᴰ (xs ++ ys)) (sym e) (Sublistᴰ.append (Sublistᴰ.refl xs) (Sublistᴰ.cons (Sublistᴰ.refl ys))),
          )

      -- the stand-in and every other
      pub in_instead : (x : S.Line) → Memᴰ x (instead S s by ls) ↔ (Memᴰ x (stand_in by) ⊎ (Memᴰ x ls × (x ≢ s)))
      in_instead x =
          let (xs, ys, e) = mem_split m in
          let p : Ordered S (xs ++ s ∷ ys) = subst (Ordered S) e o in
          let here : instead S s by ls ≡ xs ++ (stand_in by ++ ys) = ap (instead S s by) e ∙ instead_here xs ys p in
          subst (λ l. Memᴰ x (instead S s by ls) ↔ (Memᴰ x (stand_in by) ⊎ (Memᴰ x l × (x ≢ s)))) (sym e)
          (subst (λ l. Memᴰ x l ↔ (Memᴰ x (stand_in by) ⊎ (Memᴰ x (xs ++ s ∷ ys) × (x ≢ s)))) (sym here) (to xs ys p, from xs ys))
        where
          to : (xs ys : List S.Line) → Ordered S (xs ++ s ∷ ys) → Memᴰ x (xs ++ (stand_in by ++ ys)) →
              Memᴰ x (stand_in by) ⊎ (Memᴰ x (xs ++ s ∷ ys) × (x ≢ s))
          to xs ys p i =
              ⊎_elim
              (λ j. inr (Memᴰ.append_left (s ∷ ys) j, before_other S L x s (ordered_apart S xs (s ∷ ys) p x s j (Memᴰ.head refl))))
              (λ k. ⊎_elim inl
              (λ j. inr (
                Memᴰ.append_right xs (Memᴰ.tail j),
                λ d. before_other S L s x (ordered_head S (ordered_right S xs (s ∷ ys) p) x j) (sym d),
              ))
              (Memᴰ.append_cases (stand_in by) k))
              (Memᴰ.append_cases xs i)

          from : (xs ys : List S.Line) → Memᴰ x (stand_in by) ⊎ (Memᴰ x (xs ++ s ∷ ys) × (x ≢ s)) → Memᴰ x (xs ++ (stand_in by ++ ys))
          from xs ys (inl i) = Memᴰ.append_right xs (Memᴰ.append_left ys i)
          from xs ys (inr (i, d)) =
              ⊎_elim
              (λ j. Memᴰ.append_left (stand_in by ++ ys) j)
              (λ k. ⊎_elim (λ q. absurd (d q)) (λ j. Memᴰ.append_right xs (Memᴰ.append_right (stand_in by) j)) (Memᴰ.cases_cons k))
              (Memᴰ.append_cases xs i)

  pub in_without : {ls : List S.Line} → Ordered S ls → Memᴰ s ls → (x : S.Line) → Memᴰ x (without S s ls) ↔ (Memᴰ x ls × (x ≢ s))
  in_without {ls} o m x =
      let k = in_instead none o m x in
      (λ i. ⊎_elim (λ j. absurd (Memᴰ.not-nil j)) (λ j. j) (k.0 (rw (instead_none S s ls) i)), λ w. rw (← instead_none S s ls) (k.1 (inr w)))

  -- ---- the last line of a subtree decides for all

  pub none_behind : (t : Tree S.Line) → Ordered S (leaves t) → T (not (S.before s (last t))) → (x : S.Line) → Memᴰ x (leaves t) →
      T (not (S.before s x))
  none_behind t o h x m =
      not_T (S.before s x)
      (λ u. T_not (S.before s (last t)) h
      (⊎_elim (λ (e : x ≡ last t). subst (λ c. T (S.before s c)) e u) (λ v. L.before_trans s x (last t) u v) (up_to_last t (ordered_pairs o) m)))

  pub all_before : (t : Tree S.Line) → Ordered S (leaves t) → T (S.before (last t) s) → (x : S.Line) → Memᴰ x (leaves t) → T (S.before x s)
  all_before t o h x m =
      ⊎_elim (λ (e : x ≡ last t). subst (λ c. T (S.before c s)) (sym e) h) (λ v. L.before_trans x (last t) s v h) (up_to_last t (ordered_pairs o) m)
