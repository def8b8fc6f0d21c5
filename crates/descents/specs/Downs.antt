-- A way down from a node, each step to a child, until a leaf.
use Rattle.std.specs.Prelude.{◌≡◌, ℕ, suc, ◌+◌, ◌-◌, ◌≤◌, ◌<◌}
use Rattle.std.proofs.Common.{subst, arith}
use Rattle.table.specs.Fields.{most_slots}

-- at most `limit` steps lead from node y to leaf r; r is 0 where they lead to none
pub data Down (step : ℕ → ℕ → Type 0) : ℕ → ℕ → ℕ → Type 0 where
  at_leaf : {limit y : ℕ} → y ≤ most_slots → Down step limit y y
  goes : {limit y z r : ℕ} → most_slots < y → step y z → Down step limit z r → Down step (suc limit) y r
  over : {y : ℕ} → most_slots < y → Down step 0 y 0

-- ---- the loop

-- n turns are done, and what the others lead to from node y is what all lead to from x
pub record Downward (step : ℕ → ℕ → Type 0) (limit x n y : ℕ) : Type 0 where
  pub on : n ≤ limit → (r : ℕ) → Down step (limit - n) y r → Down step limit x r
  pub out : limit < n → Down step limit x 0

module _ {step : ℕ → ℕ → Type 0} {limit x : ℕ} where
  pub down_begins : Downward step limit x 0 x
  down_begins =
      record { on = λ h r d. let e : limit - 0 ≡ limit = omega arith in subst (λ (m : ℕ). Down step m x r) e d; out = λ h. absurd (omega arith) }

  pub down_ends : {n y : ℕ} → Downward step limit x n y → n ≤ limit → y ≤ most_slots → Down step limit x y
  down_ends {n} {y} g h s = g.on h y (at_leaf s)

  pub down_goes : {n y z : ℕ} → Downward step limit x n y → n ≤ limit → most_slots < y → step y z → Downward step limit x (n + 1) z
  down_goes {n} {y} {z} g h s c =
      record {
        on = λ f r d. let e : suc (limit - (n + 1)) ≡ limit - n = omega arith in g.on h r (subst (λ (m : ℕ). Down step m y r) e (goes s c d));
        out = λ f. let e : 0 ≡ limit - n = omega arith in g.on h 0 (subst (λ (m : ℕ). Down step m y 0) e (over s));
      }
