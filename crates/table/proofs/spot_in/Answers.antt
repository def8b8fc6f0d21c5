-- `table::spot_in` meets its contract: by its three tests, and since the capacity is the part's.
use mathlib.Core.Path.{sym}
use native.Mathlib.Omega.{arith}
use Rattle.table.specs.Cells.{placed, spot_there}
use Rattle.table.specs.Layout.{spot_out}
use Rattle.table.proofs.spot_in.Goals as goal

pub returns-then-slot-lt1 : goal.returns-then-slot-lt1
returns-then-slot-lt1 c = sym (spot_out (λ v. omega arith))

pub returns-then-c-slot : goal.returns-then-c-slot
returns-then-c-slot c = sym (spot_out (λ v. omega (arith, c.requires)))

pub returns-then-field-ge32 : goal.returns-then-field-ge32
returns-then-field-ge32 c = sym (spot_out (λ v. omega arith))

pub address-requires : goal.address-requires
address-requires c = placed _ _ _ _ c.requires c.if-c-slot.false c.if-field-ge32.false

pub returns : goal.returns
returns c = spot_there _ _ _ _ c.requires c.if-c-slot.false c.if-field-ge32.false
    c.if-slot-lt1.false c.address.ensures
