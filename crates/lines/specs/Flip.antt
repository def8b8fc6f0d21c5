-- Changed signs. A book of bids gives the greatest price and orders rates upward: its figure is the one of the negated lines,
-- `lineFigure A (λ a. neg_ℤ (rate a)) (λ a. neg_ℤ (base a))`, which `lineLaws` covers as it stands. Seen from the offers' side that figure is the
-- flip of theirs: prices and the order of lines turned round, points as they were, a crossing's numerator own base − next base and its
-- denominator next rate − own rate.
use Rattle.std.specs.Prelude.{◌≡◌, pred, ℤ, neg_ℤ, nat_abs, ◌+ℤ◌, ◌-ℤ◌, ◌*ℤ◌}
use Rattle.std.proofs.Common.{arith}
use Rattle.std.specs.Int.Signed.{le_z, lt_z}
use Rattle.lists.specs.Bools.{same_test}
use Rattle.integers.specs.Parts.{int_rules, neg_parts}
use Rattle.integers.specs.Ring.{Ex, var, neg, ◌:+◌, ◌:-◌, ◌:*◌, by_eq, same_le}
use Rattle.offers.specs.Offers.{RationalLoad, denominator}
use Rattle.envelopes.specs.PseudoLines.{Figure, PseudoLines}
use Rattle.lines.specs.Lines.{line_figure}

abbrev pub flip : Figure → Figure
flip S =
    record {
      Line = S.Line;
      Point = S.Point;
      at_most = λ a b x. S.at_most b a x;
      up_to = S.up_to;
      before = λ a b. S.before b a;
      cross = λ a b. S.cross b a;
    }

pub flip_laws : (S : Figure) → PseudoLines S → PseudoLines (flip S)
flip_laws S L =
    record {
      price_total = λ a b x. L.price_total b a x;
      price_trans = λ a b c x h k. L.price_trans c b a x k h;
      point_total = L.point_total;
      point_trans = L.point_trans;
      somewhere = L.somewhere;
      left_of = L.left_of;
      right_of = L.right_of;
      between = L.between;
      before_irrefl = L.before_irrefl;
      before_trans = λ a b c h k. L.before_trans c b a k h;
      rise = λ a b. L.rise b a;
      rise_strict = λ a b. L.rise_strict b a;
      fall = λ a b. L.fall b a;
      cross_le = λ a b. L.cross_le b a;
      cross_ge = λ a b. L.cross_ge b a;
    }

-- ---- the negated lines are the flip

negated_sub : (a b : ℤ) → neg_ℤ a -ℤ neg_ℤ b ≡ b -ℤ a
negated_sub a b = by_eq (neg (var a) :- neg (var b)) (var b :- var a) (omega arith)

negated_price : (b r b' r' d n : ℤ) → le_z (neg_ℤ b *ℤ d +ℤ neg_ℤ r *ℤ n) (neg_ℤ b' *ℤ d +ℤ neg_ℤ r' *ℤ n) ≡ le_z (b' *ℤ d +ℤ r' *ℤ n) (b *ℤ d +ℤ r *ℤ n)
negated_price b r b' r' d n =
    same_le (neg_ℤ b *ℤ d +ℤ neg_ℤ r *ℤ n) (neg_ℤ b' *ℤ d +ℤ neg_ℤ r' *ℤ n) (b' *ℤ d +ℤ r' *ℤ n) (b *ℤ d +ℤ r *ℤ n)
    (by_eq (negated b' r' :- negated b r) (plain b r :- plain b' r') (omega arith))
  where
    plain : ℤ → ℤ → Ex
    plain b r = var b :* var d :+ var r :* var n

    negated : ℤ → ℤ → Ex
    negated b r = neg (var b) :* var d :+ neg (var r) :* var n

negated_lt : (a b : ℤ) → lt_z (neg_ℤ b) (neg_ℤ a) ≡ lt_z a b
negated_lt a b =
    same_test (lt_z (neg_ℤ b) (neg_ℤ a)) (lt_z a b) (λ h. omega (arith, int_rules, neg_parts a, neg_parts b))
    (λ h. omega (arith, int_rules, neg_parts a, neg_parts b))

abbrev pub bid_figure : (A : Type 0) (rate base : A → ℤ) → Figure
bid_figure A rate base = line_figure A (λ a. neg_ℤ (rate a)) (λ a. neg_ℤ (base a))

pub bids_are_flipped : (A : Type 0) (rate base : A → ℤ) → bid_figure A rate base ≡ flip (line_figure A rate base)
bids_are_flipped A rate base i =
    record {
      Line = A;
      Point = RationalLoad;
      at_most = λ a b x. negated_price (base a) (rate a) (base b) (rate b) (denominator x) x.numerator i;
      up_to = λ x y. le_z (x.numerator *ℤ denominator y) (y.numerator *ℤ denominator x);
      before = λ a b. negated_lt (rate a) (rate b) i;
      cross = λ a b. record { numerator = negated_sub (base b) (base a) i; above = pred (nat_abs (negated_sub (rate a) (rate b) i)) };
    }
