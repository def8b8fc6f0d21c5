-- What a chart mark tells (docs/REQUIREMENTS.md, 10.1): the number and the values of each case.
use Rattle.std.specs.Prelude.{List, [], ◌∷◌, ℤ, pos, Float}
use Rattle.marks.specs.Quotient.{double, quotient, Quotient}
use Rattle.marks.specs.declared.Point.{Point}
use Rattle.marks.specs.declared.Mark.{Mark}
use Rattle.marks.specs.declared.Mark.TheVariants.{OpenEnd, Crossing}

-- the number of the cause for declining, 0 where there is none as of every mark, and the values
pub record Told : Type 0 where
  pub number : ℤ
  pub values : List Float

-- a point's load and price
abbrev pub at_point : Point → Told
at_point p = record { number = pos 0; values = p.load ∷ p.price ∷ [] }

abbrev pub told : Mark → Told
told (OpenEnd rate) = record { number = pos 0; values = rate ∷ [] }
told (Crossing p) = at_point p

-- an open end, with its rate
abbrev pub open_end : ℤ → Told
open_end rate = record { number = pos 0; values = double rate ∷ [] }

-- a crossing at n over d, whose price times d is p
abbrev pub crossing : ℤ → ℤ → ℤ → Told
crossing n d p = record { number = pos 0; values = quotient n d ∷ quotient p d ∷ [] }

-- its point, each value a quotient rounded once
pub record PointOf (n d p : ℤ) (r : Point) : Type 0 where
  pub load : Quotient n d r.load
  pub price : Quotient p d r.price
