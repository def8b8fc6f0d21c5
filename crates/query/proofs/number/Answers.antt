-- `query::number` meets its contract: the word is read where the part has the slot.
use Rattle.std.proofs.Common.{rules}
use native.Mathlib.Omega.{arith}
use lib.ListN.{get_or}
use lib.IntN.{pos}
use mir.Syntax.{w64}
use Rattle.std.proofs.Common.{FitsSigned}
use mir.Facts.{to_z-of_z}
use Rattle.table.specs.Fields.{number_field}
use Rattle.table.specs.Cells.{cell_none, cell_inside, cell_there, place_small, placed}
use Rattle.query.proofs.number.Goals as goal

pub returns-then-slot-lt1 : goal.returns-then-slot-lt1
returns-then-slot-lt1 c = cell_none (λ v. omega (arith, v.low, v.high, c.capacity-c.ensures, c.then-slot-lt1.either))

pub address-requires : goal.address-requires
address-requires c = placed _ _ _ _ c.capacity-c.ensures (omega arith) (omega arith)

pub offset_bounds-part-address : goal.offset_bounds-part-address
offset_bounds-part-address c = let known = c.capacity-c.ensures in
    omega (arith, c.address.ensures, place_small (placed _ number_field _ _ known c.if-c-slot.false (omega arith)))

pub bounds-part-address : goal.bounds-part-address
bounds-part-address c = cell_inside _ number_field _ _ c.capacity-c.ensures c.if-c-slot.false (omega arith) c.if-slot-lt1.false c.address.ensures

pub returns : goal.returns
returns c = let w = c.args.part.now in
    let g : FitsSigned w64 (get_or w c.address.result (pos 0)) = record { sfits = search rules } in
    simp (to_z-of_z, g)
    (cell_there _ number_field _ _ c.capacity-c.ensures c.if-c-slot.false (omega arith) c.if-slot-lt1.false c.address.ensures)
