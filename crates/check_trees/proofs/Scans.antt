-- What library calls over a range of the scratch array say of its entries.
use Rattle.std.specs.Prelude.{◌≡◌, ◌≢◌, Bool, true, false, List, ℕ, ◌+◌, ◌-◌, ◌≤◌, ◌<◌, T, None, MatchBool, length, get_or}
use Rattle.std.proofs.Common.{sym, ◌∙◌, ap, ap₂, subst, arith}
use Rattle.std.specs.List.{between, list_all, AllWithin, HoldsAt, IsAllAdjacentAnswer}
use Rattle.std.proofs.lemmas.Grind.{get_or_default_zero}
use Rattle.std.proofs.lemmas.List.Edits.{length-between, get_or-between}
use Rattle.std.proofs.lemmas.List.Sums.{AllPass-from_list_all, list_all-from_AllPass}
use Rattle.std.proofs.lemmas.List.{same_lists}
use Rattle.lists.specs.Bools.{is_true, passed, never}
use Rattle.check_trees.specs.Deciding.{Decides, Every, Agree, decides_yes, decides_no}
use Rattle.check_trees.specs.Loops.{FirstOf, PlaceOf}

module _ (xs : List ℕ) (from to : ℕ) (high : to ≤ length xs) where
  abbrev pub range : List ℕ
  range = between from to xs

  pub range_long : length range ≡ to - from
  range_long = length-between xs from to high

  -- an entry of the range is one of the array
  pub range_at : (k d : ℕ) → from + k < to → get_or range k d ≡ get_or xs (from + k) 0
  range_at k d h = get_or-between xs from to k d h ∙ get_or_default_zero xs (from + k) d (omega arith)

  array_at : (k d : ℕ) → from ≤ k → k < to → get_or range (k - from) d ≡ get_or xs k 0
  array_at k d l h = let e : from + (k - from) ≡ k = omega arith in range_at (k - from) d (omega arith) ∙ ap (λ (i : ℕ). get_or xs i 0) e

  -- every entry of the range passes a test
  pub all_scan : (p : ℕ → Bool) {P : ℕ → Type 0} {b : Bool} → ((k : ℕ) → T (p (get_or xs k 0)) → P k) → ((k : ℕ) → P k → T (p (get_or xs k 0))) →
      b ≡ list_all p range → Decides b (Every P from to)
  all_scan p {P} {b} pass back e = record { sound = found; complete = λ f. e ∙ list_all-from_AllPass p range (all f) }
    where
      found : b ≡ true → Every P from to
      found t = record {
        at = λ k l h. pass k
            (passed (ap p (sym (array_at k 0 l h)) ∙ AllPass-from_list_all p range (sym e ∙ t) (k - from) 0 (omega (arith, range_long))));
      }

      all : Every P from to → (k : ℕ) (d : ℕ) → k < length range → p (get_or range k d) ≡ true
      all f k d h = ap p (range_at k d (omega (arith, range_long))) ∙ is_true _ (back (from + k) (f.at (from + k) (omega arith) (omega (arith, range_long))))

  -- every entry was answered yes, or one was answered no
  pub each_scan : (Yes No : ℕ → Type 0) (b : Bool) → MatchBool b (AllWithin Yes range 0 (length range)) ((k : ℕ) × (k < length range) × HoldsAt No range k) →
      MatchBool b (Every (λ k. Yes (get_or xs k 0)) from to) ((k : ℕ) × (from ≤ k) × (k < to) × No (get_or xs k 0))
  each_scan Yes No true f = record { at = λ k l h. subst Yes (array_at k 0 l h) (f (k - from) 0 (omega arith) (omega (arith, range_long))) }
  each_scan Yes No false (k, h, f) =
      (from + k, omega arith, omega (arith, range_long), subst No (range_at k 0 (omega (arith, range_long))) (f 0))

  -- each entry and the next pass one
  pub adjacent_scan : (p : ℕ → ℕ → Bool) {P : ℕ → Type 0} {b : Bool} → ((k : ℕ) → T (p (get_or xs k 0) (get_or xs (k + 1) 0)) → P k) →
      ((k : ℕ) → P k → T (p (get_or xs k 0) (get_or xs (k + 1) 0))) → IsAllAdjacentAnswer (λ x y r. r ≡ p x y) range b → Decides b (Every P from (to - 1))
  adjacent_scan p {P} {b = true} pass back f = decides_yes (record { at = found })
    where
      found : (k : ℕ) → from ≤ k → k < to - 1 → P k
      found k l h =
          let e : get_or range (k - from + 1) 0 ≡ get_or xs (k + 1) 0 =
          (let q : k - from + 1 ≡ k + 1 - from = omega arith in ap (λ (i : ℕ). get_or range i 0) q ∙ array_at (k + 1) 0 (omega arith) (omega arith)) in
          pass k (passed (sym (f (k - from) 0 (omega (arith, range_long)) ∙ ap₂ p (array_at k 0 l (omega arith)) e)))
  adjacent_scan p {P} {b = false} pass back (k, h, f) = decides_no other
    where
      other : Every P from (to - 1) → ⊥
      other g =
          let e : get_or range (k + 1) 0 ≡ get_or xs (from + k + 1) 0 =
          (let q : from + (k + 1) ≡ from + k + 1 = omega arith in range_at (k + 1) 0 (omega (arith, range_long)) ∙ ap (λ (i : ℕ). get_or xs i 0) q) in
          never (is_true _ (back (from + k) (g.at (from + k) (omega arith) (omega (arith, range_long)))))
          (sym (f 0 ∙ ap₂ p (range_at k 0 (omega (arith, range_long))) e))

  -- no entry is s, or one is the first that is
  pub place_none : {s : ℕ} → AllWithin (λ y. y ≢ s) range 0 (length range) → PlaceOf xs from to s None
  place_none f = record { at = λ k l h e. f (k - from) 0 (omega arith) (omega (arith, range_long)) (array_at k 0 l h ∙ e) }

  pub place_some : {s i : ℕ} → (i < length range) × HoldsAt (λ y. y ≡ s) range i × AllWithin (λ y. y ≢ s) range 0 i → FirstOf xs from to s (from + i)
  place_some {s} {i} (h, e, f) = record {
    low = omega arith;
    high = omega (arith, range_long);
    found = sym (range_at i 0 (omega (arith, range_long))) ∙ e 0;
    first = record { at = λ k l j q. f (k - from) 0 (omega arith) (omega arith) (array_at k 0 l (omega (arith, range_long)) ∙ q) };
  }

-- two ranges of n entries are the same
module _ (xs : List ℕ) (a b n : ℕ) (h : a + n ≤ length xs) (l : b + n ≤ length xs) where
  pub agree_scan : {r : Bool} → (r ≡ true → between a (a + n) xs ≡ between b (b + n) xs) × (between a (a + n) xs ≡ between b (b + n) xs → r ≡ true) →
      Decides r (Agree xs a b n)
  agree_scan (s, t) = record { sound = λ e. record { at = λ k i j. agree (s e) k j }; complete = λ e. t (same e) }
    where
      agree : between a (a + n) xs ≡ between b (b + n) xs → (k : ℕ) → k < n → get_or xs (a + k) 0 ≡ get_or xs (b + k) 0
      agree e k j = sym (range_at xs a (a + n) h k 0 (omega arith)) ∙ ap (λ (zs : List ℕ). get_or zs k 0) e ∙ range_at xs b (b + n) l k 0 (omega arith)

      same : Agree xs a b n → between a (a + n) xs ≡ between b (b + n) xs
      same e =
          same_lists _ _ (omega (arith, length-between xs a (a + n) h, length-between xs b (b + n) l))
          (λ k d j. range_at xs a (a + n) h k d (omega (arith, length-between xs a (a + n) h))
          ∙ e.at k (omega arith) (omega (arith, length-between xs a (a + n) h))
          ∙ sym (range_at xs b (b + n) l k d (omega (arith, length-between xs a (a + n) h))))
