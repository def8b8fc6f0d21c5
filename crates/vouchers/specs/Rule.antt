-- The voucher rule (docs/REQUIREMENTS.md, 11): a price in whole units of 100 cents, at most 50 cents off, and even where it is 50 off.
use Rattle.std.specs.Prelude.{ℕ, ◌%◌, ◌≤◌, ◌≡◌, ℤ, pos, nat_abs, ◌-ℤ◌, ◌*ℤ◌}

-- how far u units are from a price, in cents
abbrev pub off : ℤ → ℤ → ℕ
off price u = nat_abs (pos 100 *ℤ u -ℤ price)

abbrev pub Even : ℤ → Type 0
Even u = nat_abs u % 2 ≡ 0

-- u units are the price rounded; no other number of units is (`only-rounded`)
pub record Rounded (price u : ℤ) : Type 0 where
  pub near : off price u ≤ 50
  pub half : off price u ≡ 50 → Even u
