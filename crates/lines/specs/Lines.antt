-- Lines with an integer rate and base, at rational loads: the instance of pseudo-lines that offers are. Their laws rest on one fact with products (Lead).
use Rattle.std.specs.Prelude.{◌≡◌, refl, ◌⊎◌, ◌≢◌, zero, suc, pred, T, ℤ, pos, negsuc, nat_abs, ◌+ℤ◌, ◌-ℤ◌, ◌*ℤ◌}
use Rattle.std.proofs.Common.{sym, ap, ap₂, subst, inl, inr, arith}
use Rattle.std.specs.Int.Signed.{le_z, lt_z}
use Rattle.integers.specs.Parts.{int_rules, le_total, trichotomy, gap_above}
use Rattle.integers.specs.Ring.{Ex, var, nat, ◌:+◌, ◌:-◌, ◌:*◌, by_eq, same_le}
use Rattle.offers.specs.Offers.{RationalLoad, denominator}
use Rattle.envelopes.specs.PseudoLines.{Figure, PseudoLines}
use Rattle.lines.specs.Lead.{lead, rises, rises_strictly, falls, order_trans, order_total, over, mediant, less_one, plus_one, mediant_left, mediant_right}

abbrev pub line_figure : (A : Type 0) (rate base : A → ℤ) → Figure
line_figure A rate base =
    record {
      Line = A;
      Point = RationalLoad;
      at_most = λ a b x. le_z (base a *ℤ denominator x +ℤ rate a *ℤ x.numerator) (base b *ℤ denominator x +ℤ rate b *ℤ x.numerator);
      up_to = λ x y. le_z (x.numerator *ℤ denominator y) (y.numerator *ℤ denominator x);
      before = λ a b. lt_z (rate b) (rate a);
      cross = λ a b. record { numerator = base b -ℤ base a; above = pred (nat_abs (rate a -ℤ rate b)) };
    }

-- ---- two lines compared, by the difference of their bases and rates

module _ (b r b' r' : ℤ) (x : RationalLoad) where
  quoted : Ex → Ex → Ex
  quoted p q = p :* nat (suc x.above) :+ q :* var x.numerator

  -- the second price is at most the first exactly where the first leads by 0 or more
  pub leads : le_z (b' *ℤ denominator x +ℤ r' *ℤ x.numerator) (b *ℤ denominator x +ℤ r *ℤ x.numerator) ≡ le_z (pos 0) (lead (b -ℤ b') (r -ℤ r') x)
  unfolding quoted
  leads =
      same_le (b' *ℤ denominator x +ℤ r' *ℤ x.numerator) (b *ℤ denominator x +ℤ r *ℤ x.numerator) (pos 0) (lead (b -ℤ b') (r -ℤ r') x)
      (by_eq (quoted (var b) (var r) :- quoted (var b') (var r')) (quoted (var b :- var b') (var r :- var r') :- nat 0) (omega arith))

  -- and the first at most the second exactly where it leads by 0 or less
  pub trails : le_z (b *ℤ denominator x +ℤ r *ℤ x.numerator) (b' *ℤ denominator x +ℤ r' *ℤ x.numerator) ≡ le_z (lead (b -ℤ b') (r -ℤ r') x) (pos 0)
  unfolding quoted
  trails =
      same_le (b *ℤ denominator x +ℤ r *ℤ x.numerator) (b' *ℤ denominator x +ℤ r' *ℤ x.numerator) (lead (b -ℤ b') (r -ℤ r') x) (pos 0)
      (by_eq (quoted (var b') (var r') :- quoted (var b) (var r)) (nat 0 :- quoted (var b :- var b') (var r :- var r')) (omega arith))

-- ---- crossings

-- a number above 0, by its predecessor
above_is : (z : ℤ) → T (lt_z (pos 0) z) → pos (suc (pred (nat_abs z))) ≡ z
above_is (pos zero) t = absurd t
above_is (pos (suc n)) t = refl
above_is (negsuc n) t = absurd t

-- ---- whole loads

-- q over 1
abbrev pub whole : ℤ → RationalLoad
whole q = over q 0

pub times_one : (z : ℤ) → z *ℤ pos 1 ≡ z
times_one z = by_eq (var z :* nat 1) (var z) (omega arith)

price_at_whole : (r b q : ℤ) → b *ℤ pos 1 +ℤ r *ℤ q ≡ b +ℤ r *ℤ q
price_at_whole r b q = ap (λ (z : ℤ). z +ℤ r *ℤ q) (times_one b)

module _ (A : Type 0) (rate base : A → ℤ) where
  abbrev pub F : Figure
  F = line_figure A rate base

  -- a crossing's denominator is the difference of the rates
  pub cross_denominator : (a b : A) → T (F.before a b) → denominator (F.cross a b) ≡ rate a -ℤ rate b
  cross_denominator a b h = above_is (rate a -ℤ rate b) (gap_above (rate a) (rate b) h)

  -- lines of different rates are in order
  pub before_total : (a b : A) → rate a ≢ rate b → T (F.before a b) ⊎ T (F.before b a)
  before_total a b f = pick (trichotomy (rate a) (rate b))
    where
      pick : T (lt_z (rate a) (rate b)) ⊎ ((rate a ≡ rate b) ⊎ T (lt_z (rate b) (rate a))) → T (F.before a b) ⊎ T (F.before b a)
      pick (inl h) = inr h
      pick (inr (inl e)) = absurd (f e)
      pick (inr (inr h)) = inl h

  -- ---- the tests as code computes them

  -- at a whole load prices are compared as they are
  pub whole_price : (a b : A) (q : ℤ) → F.at_most a b (whole q) ≡ le_z (base a +ℤ rate a *ℤ q) (base b +ℤ rate b *ℤ q)
  whole_price a b q = ap₂ le_z (price_at_whole (rate a) (base a) q) (price_at_whole (rate b) (base b) q)
