-- `check_bridges::rate_gap` meets its contract.
use mathlib.Core.Path.{ap₂}
use lib.IntN.{◌-ℤ◌}
use mir.Facts.{to_z-of_z}
use mir.Syntax.{w64}
use Rattle.std.proofs.Common.{FitsSigned}
use Rattle.prices.specs.Prices.{rates_fit}
use Rattle.check_bridges.proofs.rate_gap.Goals as goal

pub overflow_sub-result : goal.overflow_sub-result
overflow_sub-result c = let p : FitsSigned w64 c.rate.result = record { sfits = c.rate.type_inv } in
    let q : FitsSigned w64 c.rate-2.result = record { sfits = c.rate-2.type_inv } in
    simp (to_z-of_z, p, q) (rates_fit _ c.args.a c.args.b c.rate.ensures c.rate-2.ensures)

pub returns : goal.returns
returns c = let p : FitsSigned w64 c.rate.result = record { sfits = c.rate.type_inv } in
    let q : FitsSigned w64 c.rate-2.result = record { sfits = c.rate-2.type_inv } in
    let z = rates_fit _ c.args.a c.args.b c.rate.ensures c.rate-2.ensures in
    let read = c.of-read.ensures in
    simp (to_z-of_z, p, q, z) (ap₂ ◌-ℤ◌ (rw read at c.rate.ensures) (rw read at c.rate-2.ensures))
