-- `table::spot` meets its contract: by its tests.
use mathlib.Core.Path.{sym}
use native.Mathlib.Omega.{arith}
use Rattle.table.specs.Cells.{placed, spot_there}
use Rattle.table.specs.Layout.{cap_cut, cap_whole, spot_out}
use borrow.Author.Rules.{rules}
use Rattle.table.proofs.spot.Goals as goal

pub returns-then-part-c : goal.returns-then-part-c
returns-then-part-c c = sym (spot_out (λ v. omega (arith, cap_cut _ _ c.number_at-c.ensures c.if-part-c.true)))

pub returns-then-slot-lt1 : goal.returns-then-slot-lt1
returns-then-slot-lt1 c = sym (spot_out (λ v. omega arith))

pub returns-then-c-slot : goal.returns-then-c-slot
returns-then-c-slot c = sym (spot_out (λ v. omega (arith, cap_whole _ _ c.number_at-c.ensures c.if-part-c.false)))

pub returns-then-field-ge32 : goal.returns-then-field-ge32
returns-then-field-ge32 c = sym (spot_out (λ v. omega arith))

pub address-requires : goal.address-requires
address-requires c = let e = cap_whole _ _ c.number_at-c.ensures c.if-part-c.false in
    placed _ _ _ _ e c.if-c-slot.false c.if-field-ge32.false

pub returns : goal.returns
returns c = let e = cap_whole _ _ c.number_at-c.ensures c.if-part-c.false in
    spot_there _ _ _ _ e c.if-c-slot.false c.if-field-ge32.false c.if-slot-lt1.false c.address.ensures
