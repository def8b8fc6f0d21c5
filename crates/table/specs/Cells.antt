-- A slot's field read straight from the words, where the part's capacity c is known.
use Rattle.std.specs.Prelude.{◌≡◌, ℕ, ◌+◌, ◌*◌, ◌/◌, ◌≤◌, ◌<◌, length, pos}
use Rattle.std.proofs.Math.Path.{sym, ap}
use Rattle.std.proofs.Common.{◌∙◌, mul-le-mul, arith}
use Rattle.std.proofs.Math.ListN.{get_or}
use Rattle.table.specs.Fields.{most_slots}
use Rattle.table.specs.Words.{Words, word, word_out}
use Rattle.table.specs.Layout.{cap, cap_most, place, Valid, place_in, spot, spot_in, spot_out, cell}

-- the part has no such field
pub cell_none : {w : Words} {f s : ℕ} → ¬ Valid w f s → pos 0 ≡ cell w f s
unfolding cell
cell_none {w} v = sym (ap (word w) (spot_out v) ∙ word_out w _ (omega arith))

-- what a place is computed from
pub record Placed (c f s : ℕ) : Type 0 where
  pub small : c ≤ most_slots
  pub high : s ≤ c
  pub field : f < 32

-- no step of the sum wraps
pub plane_low : {c f s : ℕ} → Placed c f s → f / 4 * (c + 1) ≤ 28_679
plane_low p = mul-le-mul {n₂ = 7} {m₂ = 4097} (omega (arith, p.field)) (omega (arith, p.small))

pub place_small : {c f s : ℕ} → Placed c f s → place c f s ≤ 131_167
unfolding place
place_small p = omega (arith, plane_low p, p.small, p.high)

module _ (w : Words) (f s c : ℕ) (known : c ≡ cap w) (high : s ≤ c) (field : f < 32) where
  pub placed : Placed c f s
  placed = record { small = omega (arith, cap_most w); high = high; field = field }

  module _ {at : ℕ} (low : 1 ≤ s) (place_is : at ≡ place c f s) where
    there : Valid w f s
    there = record { low = low; high = omega arith; field = field }

    same_place : at ≡ place (cap w) f s
    same_place = place_is ∙ ap (λ (k : ℕ). place k f s) known

    pub spot_there : at ≡ spot w f s
    spot_there = same_place ∙ sym (spot_in there)

    pub cell_inside : at < length w
    cell_inside = omega (arith, same_place, place_in there)

    pub cell_there : get_or w at (pos 0) ≡ cell w f s
    unfolding cell word
    cell_there = ap (λ (i : ℕ). get_or w i (pos 0)) same_place ∙ sym (ap (word w) (spot_in there))
