-- `scan_test::slots::crosses_before` is safe: both products fit.
use Rattle.std.proofs.Common.{arith, to_z-of_z, w64, FitsSigned}
use Rattle.scan_test.specs.Clamps.{product_fits}
use Rattle.scan_test.proofs.slots.crosses_before.Goals as goal

pub overflow_mul-result : goal.overflow_mul-result
overflow_mul-result c =
    let f : FitsSigned w64 c.bounded-nn.result = record { sfits = c.bounded-nn.type_inv } in
    let g : FitsSigned w64 c.bounded-ee.result = record { sfits = c.bounded-ee.type_inv } in
    simp (to_z-of_z, f, g) (product_fits 1_999_999_999 199_999 _ _ c.bounded-nn.ensures c.bounded-ee.ensures (omega arith))

pub overflow_mul-result-2 : goal.overflow_mul-result-2
overflow_mul-result-2 c =
    let f : FitsSigned w64 c.bounded-mm.result = record { sfits = c.bounded-mm.type_inv } in
    let g : FitsSigned w64 c.bounded-dd.result = record { sfits = c.bounded-dd.type_inv } in
    simp (to_z-of_z, f, g) (product_fits 1_999_999_999 199_999 _ _ c.bounded-mm.ensures c.bounded-dd.ensures (omega arith))
