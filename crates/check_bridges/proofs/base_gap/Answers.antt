-- `check_bridges::base_gap` meets its contract.
use mathlib.Core.Path.{ap₂}
use lib.IntN.{◌-ℤ◌}
use mir.Facts.{to_z-of_z}
use mir.Syntax.{w64}
use Rattle.std.proofs.Common.{FitsSigned}
use Rattle.prices.specs.Prices.{bases_fit}
use Rattle.check_bridges.proofs.base_gap.Goals as goal

pub overflow_sub-result : goal.overflow_sub-result
overflow_sub-result c = let p : FitsSigned w64 c.base.result = record { sfits = c.base.type_inv } in
    let q : FitsSigned w64 c.base-2.result = record { sfits = c.base-2.type_inv } in
    simp (to_z-of_z, p, q) (bases_fit _ c.args.a c.args.b c.base.ensures c.base-2.ensures)

pub returns : goal.returns
returns c = let p : FitsSigned w64 c.base.result = record { sfits = c.base.type_inv } in
    let q : FitsSigned w64 c.base-2.result = record { sfits = c.base-2.type_inv } in
    let z = bases_fit _ c.args.a c.args.b c.base.ensures c.base-2.ensures in
    let read = c.of-read.ensures in
    simp (to_z-of_z, p, q, z) (ap₂ ◌-ℤ◌ (rw read at c.base.ensures) (rw read at c.base-2.ensures))
