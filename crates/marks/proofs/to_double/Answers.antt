-- `marks::to_double` meets its contract: between the two tests the cast loses nothing, and outside them 0 is written.
use mathlib.Core.Path.{◌≡◌, refl, sym, ◌∙◌, subst}
use mathlib.Core.Logic.{⊎_elim}
use lib.IntN.{ℤ}
use lib.Ieee.{Float, binary64, of_bits, of_int}
use mir.Syntax.{w64}
use mir.ValLaws.{to_z-of_z}
use Rattle.marks.specs.Quotient.{plus_zero, double, Doubled}
use Rattle.marks.proofs.QuotientLaws.{doubled, double_is, cast_asks, is_exact, zero_below, zero_above}
use Rattle.marks.proofs.to_double.Goals as goal

-- the literal 0.0
written : of_bits binary64 0 ≡ plus_zero
unfolding of_bits
written = refl

same : (z : ℤ) (x : Float) → x ≡ double z → Doubled z x
same z x e = subst (λ (y : Float). Doubled z y) (sym e) (doubled z)

pub returns : goal.returns
returns c = let z = c.args.value in
    let e = to_z-of_z w64 z c.ranges.value in
    rw e (same z (of_int binary64 z) (sym (double_is z (is_exact z (rw e at c.if-value-ltminus9007199254740992.false) (rw e at c.if-value-gt9007199254740992.false)))))
