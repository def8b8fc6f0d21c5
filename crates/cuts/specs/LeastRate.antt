-- What the code of a cut computes with: the least rate in front, by its two tests; and the cut by it.
use Rattle.std.specs.Prelude.{◌≡◌, Bool, true, false, ℕ, ℤ, pos, ◌+ℤ◌}
use Rattle.std.proofs.Common.{subst}
use Rattle.std.specs.Int.Signed.{lt_z}
use Rattle.table.specs.Fields.{most_levels, piece_tree, rate_field}
use Rattle.table.specs.Words.{Words}
use Rattle.descents.specs.Cuts.{Halving}
use Rattle.cuts.specs.PieceCuts.{CutAt}
use Rattle.cuts.specs.Cutting.{least_rate, cut_at}

-- ---- the least rate

module _ (strict : Bool) (rate : ℤ) where
  pub least_own : strict ≡ false → rate ≡ least_rate strict rate
  unfolding least_rate
  least_own e = rw e

  pub least_more : strict ≡ true → lt_z rate (pos 1_000_000) ≡ true → rate +ℤ pos 1 ≡ least_rate strict rate
  unfolding least_rate
  least_more e t = rw (e, t)

  pub least_most : strict ≡ true → lt_z rate (pos 1_000_000) ≡ false → pos 1_000_000 ≡ least_rate strict rate
  unfolding least_rate
  least_most e t = rw (e, t)

  pub cut_by : {least : ℤ} {x front back : ℕ} {w w' : Words} → least ≡ least_rate strict rate →
      Halving piece_tree rate_field least x most_levels w w' front back → CutAt strict rate x w w' front back
  cut_by {least} {x} {front} {back} {w} {w'} e h = cut_at strict rate (subst (λ z. Halving piece_tree rate_field z x most_levels w w' front back) e h)
