-- Theorems on specs/Layout.
use Rattle.std.specs.Prelude.{◌≡◌, refl, ◌≢◌, Bool, true, false, cond, ℕ, ◌+◌, ◌*◌, ◌/◌, ◌%◌, ◌≤◌, ◌<◌, length, ℤ, leb}
use Rattle.std.proofs.Math.Path.{sym, ap}
use Rattle.std.proofs.Common.{◌∙◌, mul-le-mul_right, arith, le-leb, leb-true}
use Rattle.std.proofs.Math.Decide.{dec_le, dec_lt}
use Rattle.std.proofs.lemmas.Bool.{lt-leb}
use Rattle.table.specs.Fields.{capacity_word, most_nodes, most_slots}
use Rattle.table.specs.Words.{Words, word, wset, word_out, wset_length, wset_same, wset_other, wset_out, up_to, up_to_most}
use Rattle.table.specs.Layout.{Valid, cell, cset, cset_out, cset_spot, decide_valid, place_apart, place_in, spot, spot_in, spot_out}

-- two fields that a part has are kept in two places
spot_apart : {w : Words} {f s : ℕ} (f' s' : ℕ) → Valid w f s → ¬ ((f' ≡ f) × (s' ≡ s)) → spot w f' s' ≢ spot w f s
spot_apart {w} {f} {s} f' s' v d e = go (decide_valid w f' s')
  where
    go : Dec (Valid w f' s') → ⊥
    go (yes u) = d (place_apart u v (sym (spot_in u) ∙ e ∙ spot_in v))
    go (no u) = omega (arith, spot_out u, spot_in v, place_in v)

pub cset_other : (w : Words) (f s : ℕ) (z : ℤ) {f' s' : ℕ} → ¬ ((f' ≡ f) × (s' ≡ s)) → cell (cset w f s z) f' s' ≡ cell w f' s'
unfolding cell cset
cset_other w f s z {f'} {s'} d = go (decide_valid w f s)
  where
    go : Dec (Valid w f s) → word (cset w f s z) (spot (cset w f s z) f' s') ≡ word w (spot w f' s')
    go (yes v) =
        ap (word (cset w f s z)) (cset_spot w f s z f' s') ∙ wset_other w (spot w f s) (spot w f' s') z (spot_apart f' s' v d)
    go (no v) = ap (λ (u : Words). word u (spot u f' s')) (cset_out z v)
