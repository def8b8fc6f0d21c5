-- Pseudo-lines: what the geometry of envelopes rests on, and nothing else (docs/REQUIREMENTS.md, source [1], section 2).
-- The operations are tests that compute; the laws are a record over them. Every theorem of this crate is proved from the laws alone.
-- The mirror image of a figure is a figure, so what is proved of the left holds of the right.
use Rattle.std.specs.Prelude.{Bool, ◌⊎◌, T}

pub record Figure : Type 1 where
  pub Line : Type 0
  pub Point : Type 0
  -- at the point, the first line's price is at most the second's
  pub at_most : Line → Line → Point → Bool
  -- the first point is at the second or left of it
  pub up_to : Point → Point → Bool
  -- the order at x = −∞
  pub before : Line → Line → Bool
  -- the crossing of two lines
  pub cross : Line → Line → Point

-- The first point lies strictly left of the second.
abbrev pub LeftOf : (S : Figure) → S.Point → S.Point → Type 0
LeftOf S x y = ¬ T (S.up_to y x)

-- At the point, the first line's price is strictly below the second's.
abbrev pub Below : (S : Figure) → S.Line → S.Line → S.Point → Type 0
Below S a b x = ¬ T (S.at_most b a x)

pub record PseudoLines (S : Figure) : Type 0 where
  -- at each point the lines are in a total preorder by price
  pub price_total : (a b : S.Line) (x : S.Point) → T (S.at_most a b x) ⊎ T (S.at_most b a x)
  pub price_trans : (a b c : S.Line) (x : S.Point) → T (S.at_most a b x) → T (S.at_most b c x) → T (S.at_most a c x)
  -- so are the points, from left to right, with no first, no last and no gap
  pub point_total : (x y : S.Point) → T (S.up_to x y) ⊎ T (S.up_to y x)
  pub point_trans : (x y z : S.Point) → T (S.up_to x y) → T (S.up_to y z) → T (S.up_to x z)
  pub somewhere : S.Point
  pub left_of : (x : S.Point) → (y : S.Point) × LeftOf S y x
  pub right_of : (x : S.Point) → (y : S.Point) × LeftOf S x y
  pub between : (x z : S.Point) → LeftOf S x z → (y : S.Point) × LeftOf S x y × LeftOf S y z
  -- the order at −∞ is strict
  pub before_irrefl : (a : S.Line) → ¬ T (S.before a a)
  pub before_trans : (a b c : S.Line) → T (S.before a b) → T (S.before b c) → T (S.before a c)
  -- two lines cross one time: where the earlier is on or above the later it stays so to the right, strictly so further right
  pub rise : (a b : S.Line) (x y : S.Point) → T (S.before a b) → T (S.at_most b a x) → T (S.up_to x y) → T (S.at_most b a y)
  pub rise_strict : (a b : S.Line) (x y : S.Point) → T (S.before a b) → T (S.at_most b a x) → LeftOf S x y → Below S b a y
  -- and where the earlier is on or below the later it was so to the left
  pub fall : (a b : S.Line) (x y : S.Point) → T (S.before a b) → T (S.at_most a b y) → T (S.up_to x y) → T (S.at_most a b x)
  -- at the crossing both have one price
  pub cross_le : (a b : S.Line) → T (S.before a b) → T (S.at_most a b (S.cross a b))
  pub cross_ge : (a b : S.Line) → T (S.before a b) → T (S.at_most b a (S.cross a b))

-- The mirror image: the order of lines and of points turned round.
abbrev pub mirror : Figure → Figure
mirror S =
    record {
      Line = S.Line;
      Point = S.Point;
      at_most = S.at_most;
      up_to = λ x y. S.up_to y x;
      before = λ a b. S.before b a;
      cross = λ a b. S.cross b a;
    }

pub mirror_laws : (S : Figure) → PseudoLines S → PseudoLines (mirror S)
mirror_laws S L =
    record {
      price_total = L.price_total;
      price_trans = L.price_trans;
      point_total = λ x y. L.point_total y x;
      point_trans = λ x y z p q. L.point_trans z y x q p;
      somewhere = L.somewhere;
      left_of = L.right_of;
      right_of = L.left_of;
      between = λ x z h. let (y, p, q) = L.between z x h in (y, q, p);
      before_irrefl = L.before_irrefl;
      before_trans = λ a b c p q. L.before_trans c b a q p;
      rise = λ a b x y p h u. L.fall b a y x p h u;
      rise_strict = λ a b x y p h l k. L.rise_strict b a y x p k l h;
      fall = λ a b x y p h u. L.rise b a y x p h u;
      cross_le = λ a b p. L.cross_ge b a p;
      cross_ge = λ a b p. L.cross_le b a p;
    }
