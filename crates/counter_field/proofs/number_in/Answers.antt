-- `counter_field::number_in` meets its contract: by the sign.
use mathlib.Core.Path.{◌≡◌, ◌∙◌, sym}
use Prim.Native.Nat.{ℕ, suc, zero, ◌<◌, ◌^◌}
use native.Mathlib.Omega.{arith}
use lib.IntN.{pos, neg_ℤ, ◌-ℤ◌, +ℤ_idl}
use mir.Facts.{to_z-of_z, to_z_pos}
use mir.Syntax.{w64}
use mir.Val.{SFits, to_z}
use Rattle.counter_field.specs.Values.{told_minus, told_plain, has_minus_any}
use Rattle.counter_field.proofs.number_in.Goals as goal

opposite : (v : ℕ) → v < 10 ^ 18 → SFits w64 (neg_ℤ (pos v))
opposite zero h = omega arith
opposite (suc v) h = omega arith

minus-fits : (v : ℕ) → v < 10 ^ 18 → SFits w64 (pos 0 -ℤ pos v)
minus-fits v h = rw (+ℤ_idl (neg_ℤ (pos v))) (opposite v h)

as-signed : (v : ℕ) → v < 10 ^ 18 → to_z w64 v ≡ pos v
as-signed v h = to_z_pos w64 (omega arith)

pub returns-then-contains : goal.returns-then-contains
returns-then-contains c = let v = c.value_in-value in
    simp (as-signed v.result v.ensures.1, to_z-of_z, minus-fits v.result v.ensures.1)
    (told_minus _ v.ensures.0 (sym c.if-contains.true ∙ c.contains.ensures.value ∙ sym (has_minus_any _)))

pub returns-else-contains : goal.returns-else-contains
returns-else-contains c = let v = c.value_in-value in
    rw (as-signed v.result v.ensures.1)
    (told_plain _ v.ensures.0 (sym c.if-contains.false ∙ c.contains.ensures.value ∙ sym (has_minus_any _)))
