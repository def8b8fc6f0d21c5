-- Theorems on specs/Lines.
use Rattle.std.specs.Prelude.{◌≡◌, refl, ◌⊎◌, ◌≢◌, zero, suc, pred, T, ℤ, pos, negsuc, nat_abs, ◌+ℤ◌, ◌-ℤ◌, ◌*ℤ◌}
use Rattle.std.proofs.Common.{sym, ap, ap₂, subst, inl, inr, arith}
use Rattle.std.specs.Int.Signed.{le_z, lt_z}
use Rattle.integers.specs.Parts.{int_rules, le_total, trichotomy, gap_above}
use Rattle.integers.specs.Ring.{Ex, var, nat, ◌:+◌, ◌:-◌, ◌:*◌, by_eq, same_le}
use Rattle.offers.specs.Offers.{RationalLoad, denominator}
use Rattle.envelopes.specs.PseudoLines.{Figure, PseudoLines}
use Rattle.lines.specs.Lead.{lead, rises, rises_strictly, falls, order_trans, order_total, over, mediant, less_one, plus_one, mediant_left, mediant_right}
use Rattle.lines.specs.Lines.{F, cross_denominator, leads, line_figure, times_one, trails, whole}

module _ (A : Type 0) (rate base : A → ℤ) where
  -- at the crossing both lines have one price
  pub cross_price : (a b : A) → T ((F A rate base).before a b) → base a *ℤ denominator ((F A rate base).cross a b) +ℤ rate a *ℤ ((F A rate base).cross a b).numerator ≡ base b *ℤ denominator
      ((F A rate base).cross a b) +ℤ rate b *ℤ ((F A rate base).cross a b).numerator
  cross_price a b h =
      let p = var (base a) in
      let q = var (base b) in
      let r = var (rate a) in
      let s = var (rate b) in
      rw ((cross_denominator A rate base) a b h) (by_eq (p :* (r :- s) :+ r :* (q :- p)) (q :* (r :- s) :+ s :* (q :- p)) (omega arith))

  pub line_laws : PseudoLines (line_figure A rate base)
  line_laws =
      record {
        price_total = λ a b x. le_total (base a *ℤ denominator x +ℤ rate a *ℤ x.numerator) (base b *ℤ denominator x +ℤ rate b *ℤ x.numerator);
        price_trans = λ a b c x h k. omega (arith, int_rules);
        point_total = order_total;
        point_trans = order_trans;
        somewhere = over (pos 0) 0;
        left_of = λ x. (over (x.numerator -ℤ pos 1) x.above, less_one x);
        right_of = λ x. (over (x.numerator +ℤ pos 1) x.above, plus_one x);
        between = λ x z h. (mediant x z, mediant_right x z h, mediant_left x z h);
        before_irrefl = λ a h. omega (arith, int_rules);
        before_trans = λ a b c h k. omega (arith, int_rules);
        rise =
            λ a b x y p h u.
            subst T (sym (leads (base a) (rate a) (base b) (rate b) y))
            (rises (base a -ℤ base b) (rate a -ℤ rate b) x y (gap_above (rate a) (rate b) p) u (subst T (leads (base a) (rate a) (base b) (rate b) x) h));
        rise_strict =
            λ a b x y p h l k.
            let s = rises_strictly (base a -ℤ base b) (rate a -ℤ rate b) x y (gap_above (rate a) (rate b) p) l
            (subst T (leads (base a) (rate a) (base b) (rate b) x) h) in
            let t = subst T (trails (base a) (rate a) (base b) (rate b) y) k in
            omega (arith, int_rules);
        fall =
            λ a b x y p h u.
            subst T (sym (trails (base a) (rate a) (base b) (rate b) x))
            (falls (base a -ℤ base b) (rate a -ℤ rate b) x y (gap_above (rate a) (rate b) p) u (subst T (trails (base a) (rate a) (base b) (rate b) y) h));
        cross_le = λ a b p. let e = cross_price a b p in omega (arith, int_rules);
        cross_ge = λ a b p. let e = cross_price a b p in omega (arith, int_rules);
      }

  -- a whole load is at or left of a crossing
  pub whole_left : (a b : A) (q : ℤ) → T ((F A rate base).before a b) → (F A rate base).up_to (whole q) ((F A rate base).cross a b) ≡ le_z (q *ℤ (rate a -ℤ rate b)) (base b -ℤ base a)
  whole_left a b q h = ap₂ le_z (ap (λ (d : ℤ). q *ℤ d) ((cross_denominator A rate base) a b h)) (times_one (base b -ℤ base a))

  -- .. or at it or right of it
  pub whole_right : (a b : A) (q : ℤ) → T ((F A rate base).before a b) → (F A rate base).up_to ((F A rate base).cross a b) (whole q) ≡ le_z (base b -ℤ base a) (q *ℤ (rate a -ℤ rate b))
  whole_right a b q h = ap₂ le_z (times_one (base b -ℤ base a)) (ap (λ (d : ℤ). q *ℤ d) ((cross_denominator A rate base) a b h))

  -- a crossing is at another or left of it
  pub cross_left : (a b c d : A) → T ((F A rate base).before a b) → T ((F A rate base).before c d) →
      (F A rate base).up_to ((F A rate base).cross a b) ((F A rate base).cross c d) ≡ le_z ((base b -ℤ base a) *ℤ (rate c -ℤ rate d)) ((base d -ℤ base c) *ℤ (rate a -ℤ rate b))
  cross_left a b c d h k =
      ap₂ le_z (ap (λ (z : ℤ). (base b -ℤ base a) *ℤ z) ((cross_denominator A rate base) c d k)) (ap (λ (z : ℤ). (base d -ℤ base c) *ℤ z) ((cross_denominator A rate base) a b h))

  -- two lines compared at a crossing of two others
  pub price_at_cross : (l m a b : A) → T ((F A rate base).before a b) →
      (F A rate base).at_most l m ((F A rate base).cross a b) ≡ le_z (base l *ℤ (rate a -ℤ rate b) +ℤ rate l *ℤ (base b -ℤ base a))
      (base m *ℤ (rate a -ℤ rate b) +ℤ rate m *ℤ (base b -ℤ base a))
  price_at_cross l m a b h =
      ap (λ (d : ℤ). le_z (base l *ℤ d +ℤ rate l *ℤ (base b -ℤ base a)) (base m *ℤ d +ℤ rate m *ℤ (base b -ℤ base a))) ((cross_denominator A rate base) a b h)
