-- Theorems on specs/Sizes.
use Rattle.std.specs.Prelude.{◌≤◌, ◌≡◌, refl, Bool, ◌&&◌, T, ℤ, pos, negsuc, nat_abs, ◌+ℤ◌, ◌-ℤ◌, ◌*ℤ◌}
use Rattle.std.proofs.Common.{mul-le-mul, arith, SFits}
use Rattle.std.specs.Int.{w64}
use Rattle.lists.specs.Bools.{and_left, and_right, and_both}
use Rattle.integers.specs.Parts.{range_parts}
use Rattle.integers.specs.Magnitude.{nat_abs_add, nat_abs_sub, nat_abs_mul, fits, within_nat_abs, nat_abs_within}
use Rattle.offers.specs.Offers.{Offer, within, number_in_range, rate_in_range, base_in_range, load_in_range, price_in_range, offer_in_range}
use Rattle.offers.specs.Sizes.{price_at_size}

pub price_at_fits : (b r q : ℤ) → T (base_in_range b) → T (rate_in_range r) → T (load_in_range q) → SFits w64 (b +ℤ r *ℤ q)
price_at_fits b r q hb hr hq = fits (b +ℤ r *ℤ q) (omega (arith, price_at_size b r q hb hr hq))

-- so an answered price is one that a voucher takes
pub price_at_in_range : (b r q : ℤ) → T (base_in_range b) → T (rate_in_range r) → T (load_in_range q) → T (price_in_range (b +ℤ r *ℤ q))
price_at_in_range b r q hb hr hq = nat_abs_within 100_999_999_999 (b +ℤ r *ℤ q) (price_at_size b r q hb hr hq)
