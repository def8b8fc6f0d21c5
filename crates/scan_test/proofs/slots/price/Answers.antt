-- `scan_test::slots::price` is safe: the price fits.
use Rattle.std.proofs.Common.{arith, to_z-of_z, w64, FitsSigned}
use Rattle.query.specs.Readings.{price_fits}
use Rattle.scan_test.specs.Clamps.{product_fits}
use Rattle.scan_test.proofs.slots.price.Goals as goal

pub overflow_mul-result : goal.overflow_mul-result
overflow_mul-result c =
    let y : FitsSigned w64 c.bounded-r.result = record { sfits = c.bounded-r.type_inv } in
    let z : FitsSigned w64 c.bounded-q.result = record { sfits = c.bounded-q.type_inv } in
    simp (to_z-of_z, y, z) (product_fits 99_999 999_999 _ _ c.bounded-r.ensures c.bounded-q.ensures (omega arith))

pub overflow_add-result : goal.overflow_add-result
overflow_add-result c =
    let x : FitsSigned w64 c.bounded-b.result = record { sfits = c.bounded-b.type_inv } in
    let y : FitsSigned w64 c.bounded-r.result = record { sfits = c.bounded-r.type_inv } in
    let z : FitsSigned w64 c.bounded-q.result = record { sfits = c.bounded-q.type_inv } in
    let p = product_fits 99_999 999_999 _ _ c.bounded-r.ensures c.bounded-q.ensures (omega arith) in
    simp (to_z-of_z, x, y, z, p) (price_fits _ _ _ c.bounded-b.ensures c.bounded-r.ensures c.bounded-q.ensures)
