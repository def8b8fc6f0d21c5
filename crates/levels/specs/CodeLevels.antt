-- What the code of lowering and raising hands to their lemmas: the capacity that stays known, and a rest by its node.
use Rattle.std.specs.Prelude.{◌≡◌, ℕ, ◌-◌, ◌≤◌, ◌<◌, pos, ℤ}
use Rattle.std.proofs.Common.{sym, ◌∙◌, ap, arith}
use Rattle.table.specs.Fields.{inner_rest_field, leaf_rest_field, most_slots}
use Rattle.table.specs.Words.{Words}
use Rattle.table.specs.Layout.{cset, cap, cset_cap}
use Rattle.levels.specs.RaisingRests.{RestSet}

-- ---- the capacity stays known

pub still_put : {k : ℕ} {w' : Words} (w : Words) (f s : ℕ) (z : ℤ) → k ≡ cap w → w' ≡ cset w f s z → k ≡ cap w'
still_put w f s z e d = e ∙ sym (ap cap d ∙ cset_cap w f s z)

-- ---- rests

pub set_of_leaf : {x q : ℕ} {w w' : Words} → x ≤ most_slots → w' ≡ cset w leaf_rest_field x (pos q) → RestSet x q w w'
set_of_leaf h e = record { of_leaf = λ _. e; of_inner = λ d. absurd (omega arith) }

pub set_of_inner : {x m q : ℕ} {w w' : Words} → most_slots < x → m ≡ x - most_slots → w' ≡ cset w inner_rest_field m (pos q) → RestSet x q w w'
set_of_inner {q} {w} h d e = record { of_leaf = λ k. absurd (omega arith); of_inner = λ _. e ∙ ap (λ n. cset w inner_rest_field n (pos q)) d }
