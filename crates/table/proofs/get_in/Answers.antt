-- `table::get_in` meets its contract: by its three tests, and since the capacity is the part's.
use native.Mathlib.Omega.{arith}
use lib.ListN.{get_or}
use lib.IntN.{pos}
use mir.Facts.{to_z-of_z}
use mir.Syntax.{w64}
use Rattle.std.proofs.Common.{FitsSigned}
use Rattle.table.specs.Cells.{cell_none, placed, place_small, cell_inside, cell_there}
use Rattle.table.proofs.get_in.Goals as goal

pub returns-then-slot-lt1 : goal.returns-then-slot-lt1
returns-then-slot-lt1 c = cell_none (λ v. omega arith)

pub returns-then-c-slot : goal.returns-then-c-slot
returns-then-c-slot c = cell_none (λ v. omega (arith, c.requires))

pub returns-then-field-ge32 : goal.returns-then-field-ge32
returns-then-field-ge32 c = cell_none (λ v. omega arith)

pub address-at-requires : goal.address-at-requires
address-at-requires c = placed _ _ _ _ c.requires c.if-c-slot.false c.if-field-ge32.false

pub offset_bounds-part-at : goal.offset_bounds-part-at
offset_bounds-part-at c = let p = placed _ _ _ _ c.requires c.if-c-slot.false c.if-field-ge32.false in
    omega (arith, place_small p, c.address-at.ensures)

pub bounds-part-at : goal.bounds-part-at
bounds-part-at c = cell_inside _ _ _ _ c.requires c.if-c-slot.false c.if-field-ge32.false
    c.if-slot-lt1.false c.address-at.ensures

pub returns : goal.returns
returns c = let z : FitsSigned w64 (get_or c.args.part.now c.address-at.result (pos 0)) = record { sfits = c.result-1.given } in
    simp (to_z-of_z, z)
    (cell_there _ _ _ _ c.requires c.if-c-slot.false c.if-field-ge32.false c.if-slot-lt1.false
    c.address-at.ensures)
