-- A mark's numbers (docs/REQUIREMENTS.md, 10.3): integers as doubles, exactly, and quotients of them, each rounded once.
-- lib.Ieee is the toolchain's account of IEEE 754: a double is `fin s m e`, which is m × 2 ^ e, negative where s is true, or no number.
use Rattle.std.specs.Prelude.{◌*◌, ◌^◌, ◌≤◌, ◌<◌, ◌≡◌, ◌≢◌, Bool, false, not, cond, ◌&&◌, T, ℤ, pos, nat_abs, ◌-ℤ◌, ◌*ℤ◌, Float}
use Rattle.std.specs.Int.Signed.{non_neg}
use Rattle.std.specs.Float.{fin, binary64}
use Rattle.std.specs.Float.Ieee.{up, down, of_int, div}
use Rattle.std.specs.Float.Ieee.Exact.{HasValue}
use Rattle.offers.specs.Offers.{between, within}

-- ---- integers

-- up to here every integer is a double
abbrev pub exact : ℤ → Bool
exact z = within (2 ^ 53) z

abbrev pub plus_zero : Float
plus_zero = fin false 0 (pos 0)

-- An integer as a double. Further out, where the doubles have gaps, it is 0.
abbrev pub double : ℤ → Float
double z = cond (exact z) (of_int binary64 z) plus_zero

abbrev pub negative : ℤ → Bool
negative z = not (non_neg z)

-- x is m × 2 ^ e, where 2 ^ e is the fraction up e / down e
abbrev pub Is : Float → ℤ → ℤ → Type 0
Is x m e = HasValue x (negative m) (nat_abs m * up e) (down e)

-- x is an integer as a double, which loses nothing up to 2 ^ 53 either way
pub record Doubled (z : ℤ) (x : Float) : Type 0 where
  pub is : x ≡ double z
  pub exactly : T (exact z) → Is x z (pos 0)

-- ---- quotients

-- IEEE 754's quotient of the two doubles
abbrev pub quotient : ℤ → ℤ → Float
quotient n d = div binary64 (double n) (double d)

-- n and d are exact as doubles, and d is above 0
abbrev pub divisible : ℤ → ℤ → Bool
divisible n d = exact n && between (pos 1) (pos (2 ^ 53)) d

-- all digits of a double: 2 ^ 52 ≤ |m| < 2 ^ 53
abbrev pub Full : ℤ → Type 0
Full m = (2 ^ 52 ≤ nat_abs m) × (nat_abs m < 2 ^ 53)

-- twice |m × 2 ^ e × d − n| is at most 2 ^ e × d: both sides times `down e`, so that they are whole
abbrev pub WithinHalf : (n d m e : ℤ) → Type 0
WithinHalf n d m e = 2 * nat_abs (m *ℤ pos (up e) *ℤ d -ℤ n *ℤ pos (down e)) ≤ up e * nat_abs d

-- x is m × 2 ^ e with all digits, at most half of 2 ^ e off n / d. That m and e are the only ones is `written_once`.
pub record HalfUnit (n d : ℤ) (x : Float) : Type 0 where
  pub m : ℤ
  pub e : ℤ
  pub value : Is x m e
  pub digits : Full m
  pub near : WithinHalf n d m e

-- x is n / d, rounded once
pub record Quotient (n d : ℤ) (x : Float) : Type 0 where
  pub is : x ≡ quotient n d
  pub zero : T (divisible n d) → n ≡ pos 0 → x ≡ plus_zero
  pub half : T (divisible n d) → n ≢ pos 0 → HalfUnit n d x
