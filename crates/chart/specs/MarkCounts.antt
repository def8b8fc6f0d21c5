-- How many marks a listing has, and the marks of one, written out.
use Rattle.std.specs.Prelude.{suc, ◌≡◌, refl, List, [], ◌∷◌, length, pos}
use Rattle.std.proofs.Common.{ap}
use Rattle.offers.specs.Offers.{Offer}
use Rattle.marks.specs.MarkTold.{open_end, crossing}
use Rattle.chart.specs.Promises.{marks}

-- a listing of m pieces has m + 1 marks
pub marks_count : (o : Offer) (es : List Offer) → length (marks (o ∷ es)) ≡ suc (length (o ∷ es))
marks_count o [] = refl
marks_count o (p ∷ es) = ap suc (marks_count p es)

-- the offers (3, 0), (1, 10) and (0, 40) cross at 10 / 2, for 30 / 2, and at 30 / 1, for 40 / 1
pub three_pieces :
    marks (record { number = pos 1; rate = pos 3; base = pos 0 } ∷ record { number = pos 2; rate = pos 1; base = pos 10 } ∷ record {
      number = pos 3;
      rate =
          pos 0;
      base = pos 40;
    } ∷ [])
    ≡ open_end (pos 3) ∷ crossing (pos 10) (pos 2) (pos 30) ∷ crossing (pos 30) (pos 1) (pos 40) ∷ open_end (pos 0) ∷ []
three_pieces = refl
