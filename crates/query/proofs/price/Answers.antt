-- `query::price` meets its contract.
use Rattle.std.proofs.Common.{rules}
use mathlib.Core.Path.{◌≡◌}
use Prim.Native.Nat.{◌+◌}
use native.Mathlib.Omega.{arith}
use lib.ListN.{get_or}
use lib.IntN.{ℤ, pos, ◌+ℤ◌, ◌*ℤ◌}
use mir.Syntax.{w64}
use Rattle.std.proofs.Common.{FitsSigned}
use mir.Facts.{to_z-of_z}
use Rattle.integers.specs.Magnitude.{fits}
use Rattle.table.specs.Fields.{base_field, rate_field}
use Rattle.table.specs.Words.{Words}
use Rattle.table.specs.Layout.{cell}
use Rattle.table.specs.Cells.{placed}
use Rattle.query.specs.Groups.{price_none, data_small, data_in, data_cell}
use Rattle.query.specs.Readings.{clamped, clamped_product, price_fits, price_in}
use Rattle.query.proofs.price.Goals as goal

-- base, rate and load as they were clamped
module _ {b r l : ℤ} (x y q : ℤ) (eb : b ≡ clamped 1_000_000_000 x) (er : r ≡ clamped 100_000 y) (el : l ≡ clamped 1_000_000 q) where
  product-fits : FitsSigned w64 (r *ℤ l)
  product-fits = fits _ (omega (arith, clamped_product 99_999 999_999 _ _ er el))

  told : (w : Words) (s : _) → x ≡ cell w base_field s → y ≡ cell w rate_field s → b +ℤ r *ℤ l ≡ price_in w s q
  unfolding price_in
  told w s d e = rw (← d, ← e, ← eb, ← er, ← el)

pub returns-then-slot-lt1 : goal.returns-then-slot-lt1
returns-then-slot-lt1 c = price_none _ _ _ _ c.capacity-c.ensures (λ h. omega (arith, h.0, h.1, c.then-slot-lt1.either))

pub address-at-requires : goal.address-at-requires
address-at-requires c = placed _ _ _ _ c.capacity-c.ensures (omega arith) (omega arith)

pub overflow_add-at : goal.overflow_add-at
overflow_add-at c = omega (
  arith,
  data_small _ _ _ c.capacity-c.ensures c.if-slot-lt1.false c.if-c-slot.false
      c.address-at.ensures,
)

pub offset_bounds-part-at : goal.offset_bounds-part-at
offset_bounds-part-at c = omega (
  arith,
  data_small _ _ _ c.capacity-c.ensures c.if-slot-lt1.false c.if-c-slot.false
      c.address-at.ensures,
)

pub bounds-part-at : goal.bounds-part-at
bounds-part-at c = data_in _ _ _ c.capacity-c.ensures c.if-slot-lt1.false c.if-c-slot.false c.address-at.ensures base_field (omega arith)

pub overflow_add-at-2 : goal.overflow_add-at-2
overflow_add-at-2 c = omega (arith, data_small _ _ _ c.capacity-c.ensures c.if-slot-lt1.false c.if-c-slot.false c.address-at.ensures)

pub offset_bounds-part-at-2 : goal.offset_bounds-part-at-2
offset_bounds-part-at-2 c = omega (arith, data_small _ _ _ c.capacity-c.ensures c.if-slot-lt1.false c.if-c-slot.false c.address-at.ensures)

pub bounds-part-at-2 : goal.bounds-part-at-2
bounds-part-at-2 c = data_in _ _ _ c.capacity-c.ensures c.if-slot-lt1.false c.if-c-slot.false c.address-at.ensures rate_field (omega arith)

pub overflow_mul-result : goal.overflow_mul-result
overflow_mul-result c = let r : FitsSigned w64 c.bounded-rate.result = record { sfits = c.bounded-rate.type_inv } in
    let l : FitsSigned w64 c.bounded.result = record { sfits = c.bounded.type_inv } in
    simp (to_z-of_z, r, l) (product-fits _ _ _ c.bounded-base.ensures c.bounded-rate.ensures c.bounded.ensures)

pub overflow_add-result : goal.overflow_add-result
overflow_add-result c = let b : FitsSigned w64 c.bounded-base.result = record { sfits = c.bounded-base.type_inv } in
    let r : FitsSigned w64 c.bounded-rate.result = record { sfits = c.bounded-rate.type_inv } in
    let l : FitsSigned w64 c.bounded.result = record { sfits = c.bounded.type_inv } in
    let p = product-fits _ _ _ c.bounded-base.ensures c.bounded-rate.ensures c.bounded.ensures in
    simp (to_z-of_z, b, r, l, p) (price_fits _ _ _ c.bounded-base.ensures c.bounded-rate.ensures c.bounded.ensures)

pub returns : goal.returns
returns c = let w = c.args.part.now in
    let at = c.address-at.result in
    let x : FitsSigned w64 (get_or w (at + base_field) (pos 0)) = record { sfits = search rules } in
    let y : FitsSigned w64 (get_or w (at + rate_field) (pos 0)) = record { sfits = search rules } in
    let b : FitsSigned w64 c.bounded-base.result = record { sfits = c.bounded-base.type_inv } in
    let r : FitsSigned w64 c.bounded-rate.result = record { sfits = c.bounded-rate.type_inv } in
    let l : FitsSigned w64 c.bounded.result = record { sfits = c.bounded.type_inv } in
    let p = product-fits _ _ _ c.bounded-base.ensures c.bounded-rate.ensures c.bounded.ensures in
    let s = price_fits _ _ _ c.bounded-base.ensures c.bounded-rate.ensures c.bounded.ensures in
    simp (to_z-of_z, b, r, l, p, s)
    (told _ _ _ (simp (to_z-of_z, x) at c.bounded-base.ensures) (simp (to_z-of_z, y) at c.bounded-rate.ensures)
    (simp (to_z-of_z, c.ranges.load) at c.bounded.ensures) _ _
    (data_cell _ _ _ c.capacity-c.ensures c.if-slot-lt1.false c.if-c-slot.false c.address-at.ensures base_field (omega arith))
    (data_cell _ _ _ c.capacity-c.ensures c.if-slot-lt1.false c.if-c-slot.false c.address-at.ensures rate_field (omega arith)))
