-- The follower of a line in a list in order: of those behind it the first. It tells who comes first in the line's rate once the line has left.
use Rattle.std.proofs.Common.{arith, sym, ◌∙◌, ap, ⊎_elim}
use Rattle.std.specs.Prelude.{◌≡◌, ◌⊎◌, ◌≢◌, T, ℤ}
use mathlib.Core.List.{List, Memᴰ}
use Rattle.std.specs.Int.Signed.{le_z}
use Rattle.integers.specs.Parts.{int_rules}
use Rattle.offers.specs.Offers.{Offer}
use Rattle.offers.specs.Order.{Ahead, rate_falls}
use Rattle.plain.specs.FirstLaws.{FirstOf}
use Rattle.firsts.specs.Joins.{Leaves}

module _ (A : Type 0) (of : A → Offer) where
  pub record Follower (a : A) (os : List A) (b : A) : Type 0 where
    pub there : Memᴰ b os
    pub behind : Ahead (of a) (of b)
    pub next : (x : A) → Memᴰ x os → Ahead (of a) (of x) → (x ≡ b) ⊎ Ahead (of b) (of x)

  module _ {a : A} {os os' : List A} (l : Leaves A of a os os') (f : FirstOf A of os a) where
    -- another of its rate is behind it
    of_its_rate : (x : A) → Memᴰ x os' → (of x).rate ≡ (of a).rate → Ahead (of a) (of x)
    of_its_rate x m r = ⊎_elim (λ e. absurd ((l.there x m).1 e)) (λ k. k) (f.first x (l.there x m).0 r)

    -- a follower of its rate is the first then
    pub follower_first : (b : A) → Follower a os' b → (of a).rate ≡ (of b).rate → FirstOf A of os' b
    follower_first b n r = record { live = n.there; first = λ x m d. n.next x m (of_its_rate x m (d ∙ sym r)) }

    -- a follower of another rate, or none: nobody of its rate is left
    pub follower_other : (b : A) → Follower a os' b → (of a).rate ≢ (of b).rate → (x : A) → Memᴰ x os' → (of a).rate ≢ (of x).rate
    follower_other b n d x m r =
        d (between (rate_falls n.behind) (⊎_elim (λ (e : x ≡ b). same_rate e) (λ k. rate_falls k) (n.next x m (of_its_rate x m (sym r)))) r)
      where
        same_rate : x ≡ b → T (le_z (of x).rate (of b).rate)
        same_rate e = let q : (of x).rate ≡ (of b).rate = ap (λ y. (of y).rate) e in omega (arith, int_rules)

        between : {p q s : ℤ} → T (le_z q p) → T (le_z s q) → p ≡ s → p ≡ q
        between t u e = omega (arith, int_rules)

    pub follower_none : ((x : A) → Memᴰ x os' → ¬ Ahead (of a) (of x)) → (x : A) → Memᴰ x os' → (of a).rate ≢ (of x).rate
    follower_none n x m r = n x m (of_its_rate x m (sym r))
