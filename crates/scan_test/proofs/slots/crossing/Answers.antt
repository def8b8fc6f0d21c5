-- `scan_test::slots::crossing` is safe: both differences fit.
use Rattle.std.proofs.Common.{arith, to_z-of_z, w64, FitsSigned}
use Rattle.scan_test.specs.Clamps.{gap_fits}
use Rattle.scan_test.proofs.slots.crossing.Goals as goal

pub overflow_sub-result : goal.overflow_sub-result
overflow_sub-result c =
    let f : FitsSigned w64 c.bounded-b.result = record { sfits = c.bounded-b.type_inv } in
    let g : FitsSigned w64 c.bounded-a.result = record { sfits = c.bounded-a.type_inv } in
    simp (to_z-of_z, f, g) (gap_fits 999_999_999 999_999_999 _ _ c.bounded-b.ensures c.bounded-a.ensures (omega arith))

pub overflow_sub-result-2 : goal.overflow_sub-result-2
overflow_sub-result-2 c =
    let f : FitsSigned w64 c.bounded-r.result = record { sfits = c.bounded-r.type_inv } in
    let g : FitsSigned w64 c.bounded-s.result = record { sfits = c.bounded-s.type_inv } in
    simp (to_z-of_z, f, g) (gap_fits 99_999 99_999 _ _ c.bounded-r.ensures c.bounded-s.ensures (omega arith))
