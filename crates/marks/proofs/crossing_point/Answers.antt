-- `marks::crossing_point` meets its contract: each double is divided as `quotient` has it.
use mathlib.Core.Path.{◌≡◌, ap, ◌∙◌}
use lib.IntN.{ℤ}
use lib.Ieee.{Float, binary64, div}
use mir.Syntax.{w64}
use mir.Val.{SFits, to_z, of_z}
use mir.ValLaws.{to_z-of_z}
use borrow.Author.Rules.{rules}
use Rattle.marks.specs.Quotient.{double, Doubled, Quotient}
use Rattle.marks.proofs.QuotientLaws.{quotient_is}
use Rattle.marks.proofs.crossing_point.Goals as goal

-- the machine reads an argument back from its bits, which changes nothing
passed : (z : ℤ) (x : Float) → SFits w64 z → Doubled (to_z w64 (of_z w64 z)) x → x ≡ double z
passed z x f h = h.is ∙ ap double (to_z-of_z w64 z f)

divided : (n d : ℤ) (x y : Float) → x ≡ double n → y ≡ double d → Quotient n d (div binary64 x y)
divided n d x y h k = rw (h, k) (quotient_is n d)

pub returns : goal.returns
returns c = let d = passed c.args.d c.to_double-divisor.result c.ranges.d c.to_double-divisor.ensures in
    record {
      load =
          divided c.args.n c.args.d c.to_double.result c.to_double-divisor.result
          (passed c.args.n c.to_double.result c.ranges.n c.to_double.ensures) d;
      price =
          divided c.args.p c.args.d c.to_double-2.result c.to_double-divisor.result
          (passed c.args.p c.to_double-2.result c.ranges.p c.to_double-2.ensures) d;
    }
