-- `query::turn_at` meets its contract: the two readings of one comparison.
use mathlib.Core.Path.{◌≡◌, ◌∙◌, ap}
use mathlib.Core.Bool.{Bool, true, false}
use Prim.Native.Nat.{ℕ, ◌≤◌}
use native.Mathlib.Omega.{arith}
use lib.IntN.{ℤ, ◌*ℤ◌}
use mir.Syntax.{w64}
use Rattle.std.proofs.Common.{FitsSigned}
use mir.Facts.{to_z-of_z}
use Rattle.integers.specs.Magnitude.{fits}
use Rattle.table.specs.Rep.{bit}
use Rattle.prices.specs.Positions.{Position, position_of, on_or_above}
use Rattle.query.specs.declared.Turn.{Turn}
use Rattle.query.specs.Readings.{clamped, clamped_product, crossing_against, kept_at, Turns}
use Rattle.query.proofs.turn_at.Goals as goal

-- `query::turn_at` meets its contract: the two readings of one comparison.
bit-low : (b : Bool) → bit b ≤ 1
bit-low true = omega arith
bit-low false = omega arith

-- clamped factors, and what was read of their position
turns : {x y : ℤ} {t : Turn} (q n d : ℤ) (s before : ℕ) → x ≡ clamped 1_000_000 q → y ≡ clamped 200_000 d → t.side ≡ bit (on_or_above (position_of (x *ℤ y) n)) →
    t.kept ≡ kept_at (position_of (x *ℤ y) n) s before → Turns q n d s before t
unfolding crossing_against
turns {x} {y} {t} q n d s before a b side kept =
    let p : position_of (x *ℤ y) n ≡ crossing_against q n d = rw (a, b) in
    let e : t.side ≡ bit (on_or_above (crossing_against q n d)) = side ∙ ap (λ (z : Position). bit (on_or_above z)) p in
    record { side = e; low = omega (arith, e, bit-low (on_or_above (crossing_against q n d))); kept = kept ∙ ap (λ (z : Position). kept_at z s before) p }

pub overflow_mul-point : goal.overflow_mul-point
overflow_mul-point c = let f : FitsSigned w64 c.bounded.result = record { sfits = c.bounded.type_inv } in
    let g : FitsSigned w64 c.bounded-2.result = record { sfits = c.bounded-2.type_inv } in
    simp (to_z-of_z, f, g) (fits _ (omega (arith, clamped_product 999_999 199_999 _ _ c.bounded.ensures c.bounded-2.ensures)))

pub returns : goal.returns
returns c = let f = c.ranges in
    let x : FitsSigned w64 c.bounded.result = record { sfits = c.bounded.type_inv } in
    let y : FitsSigned w64 c.bounded-2.result = record { sfits = c.bounded-2.type_inv } in
    let p : FitsSigned w64 (c.bounded.result *ℤ c.bounded-2.result) =
    fits _ (omega (arith, clamped_product 999_999 199_999 _ _ c.bounded.ensures c.bounded-2.ensures)) in
    turns _ _ _ _ _ (simp (to_z-of_z, f.load) at c.bounded.ensures) (simp (to_z-of_z, f.d) at c.bounded-2.ensures)
    (simp (to_z-of_z, x, y, p, f.n) at c.side_of.ensures) (simp (to_z-of_z, x, y, p, f.n) at c.kept_at.ensures)
