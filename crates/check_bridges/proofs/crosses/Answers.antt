-- `check_bridges::crosses` meets its contract.
use mir.Facts.{to_z-of_z}
use mir.Syntax.{w64}
use Rattle.std.proofs.Common.{FitsSigned}
use Rattle.check_bridges.specs.Gaps.{products_safe, cross_told}
use Rattle.check_bridges.proofs.crosses.Goals as goal

pub overflow_mul-result : goal.overflow_mul-result
overflow_mul-result c = let x : FitsSigned w64 c.base_gap.result = record { sfits = c.base_gap.type_inv } in
    let y : FitsSigned w64 c.rate_gap.result = record { sfits = c.rate_gap.type_inv } in
    simp (to_z-of_z, x, y)
    (products_safe c.args.part.now c.args.a c.args.b c.args.c
    c.args.d c.base_gap.ensures c.rate_gap.ensures)

pub overflow_mul-result-2 : goal.overflow_mul-result-2
overflow_mul-result-2 c = let x : FitsSigned w64 c.base_gap-2.result = record { sfits = c.base_gap-2.type_inv } in
    let y : FitsSigned w64 c.rate_gap-2.result = record { sfits = c.rate_gap-2.type_inv } in
    simp (to_z-of_z, x, y)
    (products_safe c.args.part.now c.args.c c.args.d c.args.a c.args.b c.base_gap-2.ensures
    c.rate_gap-2.ensures)

pub returns : goal.returns
returns c = let x : FitsSigned w64 c.base_gap.result = record { sfits = c.base_gap.type_inv } in
    let y : FitsSigned w64 c.rate_gap.result = record { sfits = c.rate_gap.type_inv } in
    let p : FitsSigned w64 c.base_gap-2.result = record { sfits = c.base_gap-2.type_inv } in
    let q : FitsSigned w64 c.rate_gap-2.result = record { sfits = c.rate_gap-2.type_inv } in
    let u =
    products_safe c.args.part.now c.args.a c.args.b c.args.c c.args.d c.base_gap.ensures
    c.rate_gap.ensures in
    let v =
    products_safe c.args.part.now c.args.c c.args.d c.args.a c.args.b c.base_gap-2.ensures
    c.rate_gap-2.ensures in
    simp (to_z-of_z, x, y, p, q, u, v)
    (cross_told c.args.part.now c.args.a c.args.b c.args.c c.args.d c.base_gap.ensures
    c.rate_gap.ensures c.base_gap-2.ensures c.rate_gap-2.ensures)
