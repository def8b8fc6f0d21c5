-- `form::rank_of` meets its contract: in range, nothing on the way wraps.
use lib.IntN.{ℤ}
use mir.Facts.{to_z-of_z}
use Rattle.offers.specs.Offers.{Offer}
use Rattle.offers.specs.Ranks.{scaled_base_fits, behind_fits, scaled_rate_fits, rank_fits}
use Rattle.form.proofs.rank_of.Goals as goal

-- `form::rank_of` meets its contract: in range, nothing on the way wraps.
abbrev offer : ℤ → ℤ → ℤ → Offer
offer n r b = record { number = n; rate = r; base = b }

pub overflow_sub-result : goal.overflow_sub-result
overflow_sub-result c = let o = offer c.args.number c.args.rate c.args.base in
    let x = scaled_base_fits o c.requires in
    let y = behind_fits o c.requires in
    let z = scaled_rate_fits o c.requires in
    simp (to_z-of_z, c.ranges.base, c.ranges.number, c.ranges.rate, x, y, z) (rank_fits o c.requires)

pub returns : goal.returns
returns c = let o = offer c.args.number c.args.rate c.args.base in
    let x = scaled_base_fits o c.requires in
    let y = behind_fits o c.requires in
    let z = scaled_rate_fits o c.requires in
    let v = rank_fits o c.requires in
    simp (to_z-of_z, c.ranges.base, c.ranges.number, c.ranges.rate, x, y, z, v)
