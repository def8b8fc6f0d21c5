-- A query's price is the least over all live offers. The offer that it names first has the lowest rate among those at that price, and the second offer
-- the highest: one proof for both, over what a tie between two rates has to be. Of several with one price and one rate it is the first in order. The first
-- offers of their rates tell the same.
use Rattle.std.specs.Prelude.{◌≡◌, refl, ◌⊎◌, ◌≢◌, Bool, not, cond, ◌&&◌, T, ℤ, ◌*ℤ◌}
use Rattle.std.proofs.Common.{sym, ◌∙◌, ap, subst, inl, inr, ⊎_elim, arith, T_not}
use mathlib.Core.List.Memᴰ
use mathlib.Core.List.{List, [], ◌∷◌, Memᴰ, Pairwise}
use Rattle.std.proofs.Math.Dec.{not_T}
use Rattle.std.specs.Int.Signed.{le_z, lt_z}
use Rattle.lists.specs.Filter.{keep}
use Rattle.lists.specs.Firsts.{firsts_sub}
use Rattle.lists.specs.Places.{all_cons, sublist_mem}
use Rattle.lists.specs.Bools.{and_both, and_left, and_right, or_cases, neither, cond_both}
use Rattle.integers.specs.Parts.{int_rules, add_parts}
use Rattle.integers.specs.Equal.{equal}
use Rattle.offers.specs.Offers.{Offer, price_at, precedes, ahead}
use Rattle.offers.specs.Order.{Ahead, ahead_asym, ahead_other, base_rises}
use Rattle.plain.specs.Book.{lower, higher, goes_first, cheapest, first_of_each}
use Rattle.plain.specs.Meaning.{Earliest, here, later}
use Rattle.plain.specs.FirstLaws.{self, Standing, standing_cons, pairs_standing, Covered, cover, one_of_rate}

-- ---- two rates

-- A strict order of all rates.
pub record RateOrder (tie : ℤ → ℤ → Bool) : Type 0 where
  pub itself : (r : ℤ) → T (not (tie r r))
  pub turned : (r s : ℤ) → T (tie r s) → T (not (tie s r))
  pub passed : (r s t : ℤ) → T (not (tie r s)) → T (not (tie s t)) → T (not (tie r t))
  pub same : (r s : ℤ) → T (not (tie r s)) → T (not (tie s r)) → r ≡ s

pub lower_tie : RateOrder lower
lower_tie =
    record {
      itself = λ r. omega (arith, int_rules);
      turned = λ r s h. omega (arith, int_rules);
      passed = λ r s t h k. omega (arith, int_rules);
      same = λ r s h k. omega (arith, int_rules);
    }

pub higher_tie : RateOrder higher
higher_tie =
    record {
      itself = λ r. omega (arith, int_rules);
      turned = λ r s h. omega (arith, int_rules);
      passed = λ r s t h k. omega (arith, int_rules);
      same = λ r s h k. omega (arith, int_rules);
    }

-- ---- two offers

-- At the load the first offer does not go before the second.
pub record NotFirst (tie : ℤ → ℤ → Bool) (q : ℤ) (x o : Offer) : Type 0 where
  pub least : T (le_z (price_at o q) (price_at x q))
  pub best : price_at x q ≡ price_at o q → T (not (tie x.rate o.rate))

module _ {tie : ℤ → ℤ → Bool} (t : RateOrder tie) (q : ℤ) where
  itself : (o : Offer) → NotFirst tie q o o
  itself o = record { least = omega (arith, int_rules); best = λ e. t.itself o.rate }

  onward : {x y z : Offer} → NotFirst tie q x y → NotFirst tie q y z → NotFirst tie q x z
  onward {x} {y} {z} h k =
      let a = h.least in
      let b = k.least in
      record {
        least = omega (arith, int_rules);
        best = λ e. t.passed x.rate y.rate z.rate (h.best (omega (arith, int_rules))) (k.best (omega (arith, int_rules)));
      }

  -- by the test
  gone : (o p : Offer) → T (goes_first tie q o p) → NotFirst tie q p o
  gone o p h = ⊎_elim cheaper tied (or_cases (lt_z (price_at o q) (price_at p q)) (equal (price_at o q) (price_at p q) && tie o.rate p.rate) h)
    where
      cheaper : T (lt_z (price_at o q) (price_at p q)) → NotFirst tie q p o
      cheaper k = record { least = omega (arith, int_rules); best = λ e. absurd (omega (arith, int_rules)) }

      tied : T (equal (price_at o q) (price_at p q) && tie o.rate p.rate) → NotFirst tie q p o
      tied k =
          let e = and_left (equal (price_at o q) (price_at p q)) _ k in
          record { least = omega (arith, int_rules); best = λ d. t.turned o.rate p.rate (and_right (equal (price_at o q) (price_at p q)) _ k) }

  stays : (o p : Offer) → T (not (goes_first tie q o p)) → NotFirst tie q o p
  stays o p h =
      let tied = equal (price_at o q) (price_at p q) in
      let (a, b) = neither (lt_z (price_at o q) (price_at p q)) (tied && tie o.rate p.rate) h in
      record {
        least = omega (arith, int_rules);
        best = λ e. not_T (tie o.rate p.rate)
            (λ u. T_not (tied && tie o.rate p.rate) b (and_both tied (tie o.rate p.rate) (omega (arith, int_rules)) u));
      }

-- ---- all of them

-- The offer that a query names, by the rate that a tie goes to.
pub record Names (tie : ℤ → ℤ → Bool) (q : ℤ) (os : List Offer) (o : Offer) : Type 0 where
  pub live : Memᴰ o os
  pub none_first : (x : Offer) → Memᴰ x os → NotFirst tie q x o

module _ {tie : ℤ → ℤ → Bool} (t : RateOrder tie) (q : ℤ) where
  -- b is one of two offers, and neither goes before it
  joined : {x o b r : Offer} {os : List Offer} → (b ≡ o) ⊎ (b ≡ x) → NotFirst tie q o b → NotFirst tie q x b → Names tie q (b ∷ os) r →
      Names tie q (o ∷ x ∷ os) r
  joined w h k n =
      let top = n.none_first _ (Memᴰ.head refl) in
      record {
        live = ⊎_elim (λ e. ⊎_elim (λ d. Memᴰ.head (e ∙ d)) (λ d. Memᴰ.tail (Memᴰ.head (e ∙ d))) w) (λ m. Memᴰ.tail (Memᴰ.tail m))
            (Memᴰ.cases_cons n.live);
        none_first = all_cons (onward t q h top) (all_cons (onward t q k top) (λ y m. n.none_first y (Memᴰ.tail m)));
      }

  pub cheapest_names : (o : Offer) (os : List Offer) → Names tie q (o ∷ os) (cheapest tie q o os)
  cheapest_names o [] = record { live = Memᴰ.head refl; none_first = all_cons (itself t q o) (λ x n. elim n [ ]) }
  cheapest_names o (x ∷ xs) =
      cond_both (λ b. Names tie q (b ∷ xs) (cheapest tie q b xs) → Names tie q (o ∷ x ∷ xs) (cheapest tie q b xs)) (goes_first tie q x o)
      (λ h. joined (inr refl) (gone t q x o h) (itself t q x)) (λ h. joined (inl refl) (itself t q o) (stays t q x o h))
      (cheapest_names (cond (goes_first tie q x o) x o) xs)

-- ---- within one rate

pub earliest_live : {q : ℤ} {o : Offer} {os : List Offer} → Earliest q o os → Memᴰ o os
earliest_live here = Memᴰ.head refl
earliest_live (later f n) = Memᴰ.tail (earliest_live n)

-- a price and a rate have one such offer
pub earliest_once : {q : ℤ} {o p : Offer} {os : List Offer} → Earliest q o os → Earliest q p os → price_at o q ≡ price_at p q → o.rate ≡ p.rate → o ≡ p
earliest_once here here e d = refl
earliest_once here (later f n) e d = absurd (f e d)
earliest_once (later f n) here e d = absurd (f (sym e) (sym d))
earliest_once (later f m) (later g n) e d = earliest_once m n e d

-- The offer stands in the list, and goes before each one ahead of it.
data Leads (tie : ℤ → ℤ → Bool) (q : ℤ) (o : Offer) : List Offer → Type 0 where
  at_head : {x : Offer} {os : List Offer} → o ≡ x → Leads tie q o (x ∷ os)
  behind : {x : Offer} {os : List Offer} → ¬ NotFirst tie q o x → Leads tie q o os → Leads tie q o (x ∷ os)

module _ {tie : ℤ → ℤ → Bool} (t : RateOrder tie) (q : ℤ) where
  not_both : (o p : Offer) → T (goes_first tie q o p) → ¬ NotFirst tie q o p
  not_both o p h k =
      ⊎_elim (λ c. let l = k.least in absurd (omega (arith, int_rules)))
      (λ c.
      let e = and_left (equal (price_at o q) (price_at p q)) _ c in
      T_not (tie o.rate p.rate) (k.best (omega (arith, int_rules))) (and_right (equal (price_at o q) (price_at p q)) _ c))
      (or_cases (lt_z (price_at o q) (price_at p q)) (equal (price_at o q) (price_at p q) && tie o.rate p.rate) h)

  -- b is one of two offers, and neither goes before it
  led_on : {x o b r : Offer} {os : List Offer} → (b ≡ o) ⊎ ((b ≡ x) × ¬ NotFirst tie q b o) → NotFirst tie q o b → NotFirst tie q x b →
      Leads tie q r (b ∷ os) → Leads tie q r (o ∷ x ∷ os)
  led_on w h k (behind f n) = behind (λ g. f (onward t q g h)) (behind (λ g. f (onward t q g k)) n)
  led_on {o = o} w h k (at_head e) =
      ⊎_elim (λ d. at_head (e ∙ d)) (λ f. behind (subst (λ (r : Offer). ¬ NotFirst tie q r o) (sym e) f.1) (at_head (e ∙ f.0))) w

  leads : (o : Offer) (os : List Offer) → Leads tie q (cheapest tie q o os) (o ∷ os)
  leads o [] = at_head refl
  leads o (x ∷ xs) =
      cond_both (λ b. Leads tie q (cheapest tie q b xs) (b ∷ xs) → Leads tie q (cheapest tie q b xs) (o ∷ x ∷ xs)) (goes_first tie q x o)
      (λ h. led_on (inr (refl, not_both x o h)) (gone t q x o h) (itself t q x)) (λ h. led_on (inl refl) (itself t q o) (stays t q x o h))
      (leads (cond (goes_first tie q x o) x o) xs)

  earliest : {o : Offer} {os : List Offer} → Leads tie q o os → Earliest q o os
  earliest {o} (at_head {os = os} e) = subst (λ (x : Offer). Earliest q o (x ∷ os)) e here
  earliest {o} (behind {x} f n) = later (λ e d. f (as_good e d)) (earliest n)
    where
      as_good : price_at x q ≡ price_at o q → x.rate ≡ o.rate → NotFirst tie q o x
      as_good e d =
          record { least = omega (arith, int_rules); best = λ u. subst (λ (r : ℤ). T (not (tie o.rate r))) (sym d) (t.itself o.rate) }

  pub cheapest_earliest : (o : Offer) (os : List Offer) → Earliest q (cheapest tie q o os) (o ∷ os)
  cheapest_earliest o os = earliest (leads o os)

-- ---- among the first offers of their rates

-- of one rate the lower base is the lower price
no_dearer : (a b : Offer) (q : ℤ) → a.rate ≡ b.rate → T (le_z a.base b.base) → T (le_z (price_at a q) (price_at b q))
no_dearer a b q r h =
    let e : a.rate *ℤ q ≡ b.rate *ℤ q = ap (λ (z : ℤ). z *ℤ q) r in
    omega (arith, int_rules, add_parts a.base (a.rate *ℤ q), add_parts b.base (b.rate *ℤ q))

-- none ahead has the price and the rate
not_ahead : {q : ℤ} {d f : Offer} {os : List Offer} → Earliest q d os → Standing Offer self os → Memᴰ f os → Ahead f d → price_at f q ≡ price_at d q →
    f.rate ≡ d.rate → ⊥
not_ahead here (standing_cons h s) m k p r = ⊎_elim (λ e. ahead_other k e) (λ n. ahead_asym k (h _ n)) (Memᴰ.cases_cons m)
not_ahead {q} {d} (later {x} g n) (standing_cons h s) m k p r =
    ⊎_elim (λ e. subst (λ (y : Offer). price_at y q ≡ price_at d q → y.rate ≢ d.rate) (sym e) g p r) (λ i. not_ahead n s i k p r) (Memᴰ.cases_cons m)

module _ {tie : ℤ → ℤ → Bool} (t : RateOrder tie) (q : ℤ) where
  -- who is named among them is named among all
  pub named_first : {os : List Offer} {c d : Offer} → Standing Offer self os → Names tie q (first_of_each os) c → Names tie q os d → Earliest q d os → c ≡ d
  named_first {os} {c} {d} s n m first = same ∙ ⊎_elim (λ e. e) (λ k. absurd (not_ahead first s (live f.one_of) k price f.rate)) f.no_later
    where
      live : {x : Offer} → Memᴰ x (first_of_each os) → Memᴰ x os
      live i = sublist_mem (firsts_sub precedes os) i

      -- the first of its rate
      f : Covered Offer self os d
      f = cover Offer self s d m.live

      below : NotFirst tie q c d
      below = m.none_first c (live n.live)

      above : NotFirst tie q f.by c
      above = n.none_first f.by f.one_of

      cheap : T (le_z (price_at f.by q) (price_at d q))
      cheap = no_dearer f.by d q f.rate (base_rises f.no_later f.rate)

      price : price_at f.by q ≡ price_at d q
      price = let i = below.least in let j = above.least in let k = cheap in omega (arith, int_rules)

      rates : c.rate ≡ f.by.rate
      rates =
          let i = below.least in
          let j = above.least in
          let k = cheap in
          t.same c.rate f.by.rate (subst (λ (r : ℤ). T (not (tie c.rate r))) (sym f.rate) (below.best (omega (arith, int_rules))))
          (above.best (omega (arith, int_rules)))

      same : c ≡ f.by
      same = one_of_rate Offer self os n.live f.one_of rates

  -- so the query over the first offers of their rates is the query over all
  pub cheapest_firsts : (o : Offer) (os : List Offer) → Pairwise (λ a b. T (ahead a b)) (o ∷ os) →
      cheapest tie q o (keep (precedes o) (first_of_each os)) ≡ cheapest tie q o os
  cheapest_firsts o os h =
      named_first (pairs_standing Offer self h) (cheapest_names t q o (keep (precedes o) (first_of_each os))) (cheapest_names t q o os)
      (cheapest_earliest t q o os)
