-- `vouchers::whole_units` meets its contract: a rest that is enough leads one unit further out, and with any other the units stay.
use mathlib.Core.Path.{sym, subst}
use native.Mathlib.Omega.{arith}
use lib.IntN.{pos, ◌-ℤ◌}
use lib.Signed.{quot_z}
use mir.Syntax.{w64}
use mir.Val.{to_z}
use mir.Facts.{to_z-of_z}
use Rattle.integers.specs.Parts.{int_rules, nat_abs_parts, sub_parts}
use Rattle.integers.specs.Magnitude.{fits, nat_abs_sub}
use Rattle.vouchers.specs.VoucherSteps.{units_fit, below_fits, rest_fits}
use Rattle.vouchers.specs.VoucherSteps.{cut, even, odd, Enough, further_down, no_further}
use Rattle.vouchers.proofs.whole_units.Goals as goal
use Rattle.vouchers.proofs.whole_units.Goals.{then-units-eq0, else-units-eq0}

pub returns-then-rest-enough : goal.returns-then-rest-enough
returns-then-rest-enough c =
    let p = c.args.price in
    let f = c.ranges.price in
    let q = quot_z p (pos 100) in
    let units = units_fit p f in
    let rest = rest_fits p in
    let below = below_fits p f in
    let e = to_z w64 c.if-units-eq0.enough-bits in
    let enough : Enough q e = elim c.if-units-eq0.branch [
      | then-units-eq0 w ↦ subst (λ z. Enough q z) (sym w.enough-is) (omega (arith, even q (simp (to_z-of_z, f, units) at w.if-units-eq0.true)))
      | else-units-eq0 w ↦ subst (λ z. Enough q z) (sym w.enough-is) (omega (arith, odd q (simp (to_z-of_z, f, units) at w.if-units-eq0.false)))
    ] in
    let minus = fits (pos 0 -ℤ e) (omega (arith, nat_abs_sub (pos 0) e, nat_abs_parts e)) in
    let t = simp (to_z-of_z, f, rest, minus) at c.if-rest-enough.true in
    simp (to_z-of_z, f, units, below) (further_down (cut p) enough (omega (arith, int_rules, t, sub_parts (pos 0) e)))

pub returns : goal.returns
returns c =
    let p = c.args.price in
    let f = c.ranges.price in
    let q = quot_z p (pos 100) in
    let units = units_fit p f in
    let rest = rest_fits p in
    let e = to_z w64 c.if-units-eq0.enough-bits in
    let enough : Enough q e = elim c.if-units-eq0.branch [
      | then-units-eq0 w ↦ subst (λ z. Enough q z) (sym w.enough-is) (omega (arith, even q (simp (to_z-of_z, f, units) at w.if-units-eq0.true)))
      | else-units-eq0 w ↦ subst (λ z. Enough q z) (sym w.enough-is) (omega (arith, odd q (simp (to_z-of_z, f, units) at w.if-units-eq0.false)))
    ] in
    let minus = fits (pos 0 -ℤ e) (omega (arith, nat_abs_sub (pos 0) e, nat_abs_parts e)) in
    let t = simp (to_z-of_z, f, rest) at c.if-enough-rest.false in
    let z = simp (to_z-of_z, f, rest, minus) at c.if-rest-enough.false in
    simp (to_z-of_z, f, units)
    (no_further (cut p) enough (omega (arith, int_rules, t)) (omega (arith, int_rules, z, sub_parts (pos 0) e)))
