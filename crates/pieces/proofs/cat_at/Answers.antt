-- `pieces::cat_at` meets its contract.
use Rattle.pieces.proofs.Catting.{threaded_known, catted_right, catted_left, seamed_any, seamed}
use Rattle.prices.specs.Prices.{bases_fit, rates_fit}
use native.Mathlib.Omega.{arith}
use lib.IntN.{pos, ◌-ℤ◌}
use mathlib.Core.Path.{◌≡◌, ap₂}
use mir.Facts.{to_z-of_z, to_z_pos}
use mir.Syntax.{w64}
use mir.Val.{SFits, to_z}
use borrow.Author.Rules.{rules}
use Rattle.std.proofs.Common.{FitsSigned}
use Rattle.pieces.proofs.cat_at.Goals as goal

pub returns-then-l-eq0 : goal.returns-then-l-eq0
returns-then-l-eq0 c = seamed_any (catted_right c.if-l-eq0.true)

pub returns-then-r-eq0 : goal.returns-then-r-eq0
returns-then-r-eq0 c = seamed_any (catted_left c.if-r-eq0.true)

pub overflow_sub-numerator : goal.overflow_sub-numerator
overflow_sub-numerator c = let f : FitsSigned w64 c.base-2.result = record { sfits = c.base-2.type_inv } in
    let g : FitsSigned w64 c.base.result = record { sfits = c.base.type_inv } in
    simp (to_z-of_z, f, g) (bases_fit _ _ _ c.base.ensures c.base-2.ensures)

pub overflow_sub-denominator : goal.overflow_sub-denominator
overflow_sub-denominator c = let f : FitsSigned w64 c.rate.result = record { sfits = c.rate.type_inv } in
    let g : FitsSigned w64 c.rate-2.result = record { sfits = c.rate-2.type_inv } in
    simp (to_z-of_z, f, g) (rates_fit _ _ _ c.rate.ensures c.rate-2.ensures)

pub join_in-requires : goal.join_in-requires
join_in-requires c = threaded_known _ _ _ _ _ _ _ _ c.requires
    c.put_three_in.ensures

pub returns : goal.returns
returns c = let a = c.args in
    let read = c.with_capacity-read.ensures in
    let f : FitsSigned w64 c.base-2.result = record { sfits = c.base-2.type_inv } in
    let g : FitsSigned w64 c.base.result = record { sfits = c.base.type_inv } in
    let f₂ : FitsSigned w64 c.rate.result = record { sfits = c.rate.type_inv } in
    let g₂ : FitsSigned w64 c.rate-2.result = record { sfits = c.rate-2.type_inv } in
    let k = bases_fit _ a.s a.n c.base.ensures c.base-2.ensures in
    let k₂ = rates_fit _ a.s a.n c.rate.ensures c.rate-2.ensures in
    let vn : to_z w64 a.n ≡ pos a.n = to_z_pos w64 (omega (arith, c.ranges.n)) in
    seamed c.if-l-eq0.false c.if-r-eq0.false (ap₂ ◌-ℤ◌ (rw read at c.base.ensures) (rw read at c.base-2.ensures))
    (ap₂ ◌-ℤ◌ (rw read at c.rate.ensures) (rw read at c.rate-2.ensures))
    (simp (to_z-of_z, f, g, k, f₂, g₂, k₂, vn) at c.put_three_in.ensures) c.join_in.ensures
