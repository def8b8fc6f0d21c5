-- The least key above a key, as far as keys go.
use Rattle.std.specs.Prelude.{◌≡◌, true, false, cond, ℤ, pos, ◌+ℤ◌}
use Rattle.std.specs.Int.Signed.{lt_z}
use Rattle.offers.specs.Ranks.{most_rank}

unfoldable pub least_above : ℤ → ℤ
least_above key = cond (lt_z key (pos most_rank)) (key +ℤ pos 1) (pos most_rank)

pub above_more : (key : ℤ) → lt_z key (pos most_rank) ≡ true → key +ℤ pos 1 ≡ least_above key
unfolding least_above
above_more key t = rw t

pub above_most : (key : ℤ) → lt_z key (pos most_rank) ≡ false → pos most_rank ≡ least_above key
unfolding least_above
above_most key t = rw t
