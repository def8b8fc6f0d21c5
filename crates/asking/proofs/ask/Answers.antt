-- `asking::ask` meets its contract: the count, the root's piece tree, the descent, and the offer that it ends at.
use mathlib.Core.Path.{◌≡◌}
use native.Mathlib.Omega.{arith}
use lib.IntN.{pos}
use mir.Facts.{to_z-of_z, to_z_pos}
use mir.Syntax.{w64}
use mir.Val.{to_z}
use Rattle.asking.specs.Asking.{asks_empty}
use Rattle.asking.proofs.Asking.{asks_found}
use Rattle.std.proofs.Common.{FitsSigned}
use Rattle.asking.proofs.ask.Goals as goal

pub returns-then-number_at-lt1 : goal.returns-then-number_at-lt1
returns-then-number_at-lt1 c = asks_empty c.number_at.ensures c.if-number_at-lt1.true

pub returns : goal.returns
returns c = let f = c.ranges.load in
    let g : FitsSigned w64 c.number-number.result = record { sfits = c.number-number.type_inv } in
    let h : FitsSigned w64 c.price.result = record { sfits = c.price.type_inv } in
    let k : FitsSigned w64 c.beside.result = record { sfits = c.beside.type_inv } in
    let v : to_z w64 c.descend-p.result.probes ≡ pos c.descend-p.result.probes = to_z_pos w64 (omega arith) in
    simp (to_z-of_z, g, h, k, v)
    (asks_found c.number_at.ensures c.if-number_at-lt1.false
    (record {
      at_root = c.envelope_root-root.ensures;
      down = simp (to_z-of_z, f) at c.descend-p.ensures;
      named = c.number-number.ensures;
      priced = simp (to_z-of_z, f) at c.price.ensures;
      beside = c.beside.ensures;
    }))
