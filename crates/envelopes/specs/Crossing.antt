-- What the laws say of two or three lines at a point: prices in order, and the two sides of a crossing.
use Rattle.std.proofs.Common.{⊎_elim}
use Rattle.std.specs.Prelude.{T}
use Rattle.lists.specs.Bools.{not_refused}
use Rattle.envelopes.specs.PseudoLines.{Figure, LeftOf, Below, PseudoLines}

module _ (S : Figure) (L : PseudoLines S) where
  pub price_refl : (a : S.Line) (x : S.Point) → T (S.at_most a a x)
  price_refl a x = ⊎_elim (λ t. t) (λ t. t) (L.price_total a a x)

  pub point_refl : (x : S.Point) → T (S.up_to x x)
  point_refl x = ⊎_elim (λ t. t) (λ t. t) (L.point_total x x)

  -- strictly below is on or below, strictly left is at or left
  pub below_le : (a b : S.Line) (x : S.Point) → Below S a b x → T (S.at_most a b x)
  below_le a b x h = ⊎_elim (λ t. t) (λ t. absurd (h t)) (L.price_total a b x)

  pub left_upto : (x y : S.Point) → LeftOf S x y → T (S.up_to x y)
  left_upto x y h = ⊎_elim (λ t. t) (λ t. absurd (h t)) (L.point_total x y)

  pub below_le_trans : (a b c : S.Line) (x : S.Point) → Below S a b x → T (S.at_most b c x) → Below S a c x
  below_le_trans a b c x p q t = p (L.price_trans b c a x q t)

  pub le_below_trans : (a b c : S.Line) (x : S.Point) → T (S.at_most a b x) → Below S b c x → Below S a c x
  le_below_trans a b c x p q t = q (L.price_trans c a b x t p)

  pub left_upto_trans : (x y z : S.Point) → LeftOf S x y → T (S.up_to y z) → LeftOf S x z
  left_upto_trans x y z p q t = p (L.point_trans y z x q t)

  pub upto_left_trans : (x y z : S.Point) → T (S.up_to x y) → LeftOf S y z → LeftOf S x z
  upto_left_trans x y z p q t = q (L.point_trans z x y t p)

  pub left_trans : (x y z : S.Point) → LeftOf S x y → LeftOf S y z → LeftOf S x z
  left_trans x y z p q = left_upto_trans x y z p (left_upto y z q)

  pub below_trans : (a b c : S.Line) (x : S.Point) → Below S a b x → Below S b c x → Below S a c x
  below_trans a b c x p q = below_le_trans a b c x p (below_le b c x q)

  -- where the earlier is on or below the later, it is strictly below further left
  pub fall_strict : (a b : S.Line) (x y : S.Point) → T (S.before a b) → T (S.at_most a b y) → LeftOf S x y → Below S a b x
  fall_strict a b x y p h l t = L.rise_strict a b x y p t l h

  -- the side of the crossing says which of the two is lower
  module _ (a b : S.Line) (x : S.Point) (p : T (S.before a b)) where
    pub upto_cross : T (S.up_to x (S.cross a b)) → T (S.at_most a b x)
    upto_cross h = L.fall a b x (S.cross a b) p (L.cross_le a b p) h

    pub cross_upto : T (S.up_to (S.cross a b) x) → T (S.at_most b a x)
    cross_upto h = L.rise a b (S.cross a b) x p (L.cross_ge a b p) h

    pub left_of_cross : LeftOf S x (S.cross a b) → Below S a b x
    left_of_cross h = fall_strict a b x (S.cross a b) p (L.cross_le a b p) h

    pub right_of_cross : LeftOf S (S.cross a b) x → Below S b a x
    right_of_cross h = L.rise_strict a b (S.cross a b) x p (L.cross_ge a b p) h

    -- and which is lower says the side
    pub le_upto_cross : T (S.at_most a b x) → T (S.up_to x (S.cross a b))
    le_upto_cross h = not_refused (S.up_to x (S.cross a b)) (λ l. right_of_cross l h)

    pub ge_cross_upto : T (S.at_most b a x) → T (S.up_to (S.cross a b) x)
    ge_cross_upto h = not_refused (S.up_to (S.cross a b) x) (λ l. left_of_cross l h)

    pub below_left_of_cross : Below S a b x → LeftOf S x (S.cross a b)
    below_left_of_cross h t = h (cross_upto t)

    pub below_right_of_cross : Below S b a x → LeftOf S (S.cross a b) x
    below_right_of_cross h t = h (upto_cross t)
