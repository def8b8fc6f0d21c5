-- Two trees side by side made into one. The promise has two parts: on any words, only fields of slots change; and where the words hold
-- two trees side by side, with the seam's slot given, they hold one tree of a given shape afterwards, and only nodes of it were written.
use Rattle.std.specs.Prelude.{◌≡◌, Bool, not, ℕ, suc, ◌+◌, ◌<◌, max, pos}
use Rattle.std.proofs.Common.{sym, ◌∙◌, ap, subst, arith}
use Rattle.trees.specs.Tree.{Tree}
use Rattle.table.specs.Fields.{most_slots}
use Rattle.table.specs.Words.{Words}
use Rattle.table.specs.Layout.{cap_most, cset}
use Rattle.table.specs.Items.{Item}
use Rattle.table.specs.Rep.{child_field, height_field, height_at, node_on, seam, Within, within_refl}
use Rattle.table.specs.Nodes.{Pair, Made, wired, wired_within, seam_in}
use Rattle.table.proofs.Nodes.{made_node}

pub record Joined (shape : Tree Item → Tree Item → Tree Item) (k : ℕ) (side : Bool) (gap p q : ℕ) (w w' : Words) (x : ℕ) : Type 0 where
  pub within : Within w w'
  pub made : (tp tq : Tree Item) → Pair w k side p q tp tq → gap ≡ (seam side tp tq).slot → Made k w w' x (shape tp tq)

-- the same for a node of a given height, where it is the height of one over the two
pub record Raised (k : ℕ) (side : Bool) (gap p q h : ℕ) (w w' : Words) (x : ℕ) : Type 0 where
  pub joined : h ≡ suc (max (height_at w k p) (height_at w k q)) → Joined (node_on side) k side gap p q w w' x

-- by the two heights as read
pub raised : {k gap p q h hp hq x : ℕ} {side : Bool} {w w' : Words} → hp ≡ height_at w k p → hq ≡ height_at w k q → h ≡ suc (max hp hq) →
    Raised k side gap p q h w w' x → Joined (node_on side) k side gap p q w w' x
raised ep eq e r = r.joined (omega (arith, ep, eq, e))

-- ---- a node

-- a slot that no part has
pub no_gap : {shape : Tree Item → Tree Item → Tree Item} {k : ℕ} {side : Bool} {gap p q : ℕ} {w : Words} {x : ℕ} → most_slots < gap →
    Joined shape k side gap p q w w x
no_gap {side} {w} h =
    record { within = within_refl w; made = λ tp tq pair e. absurd (omega (arith, h, e, pair.slots.high (seam_in side tp tq), cap_most w)) }

pub joined_node : {k gap p q h f₁ f₂ f₃ : ℕ} {side : Bool} {w w₁ w₂ w₃ : Words}
    → h ≡ suc (max (height_at w k p) (height_at w k q)) → f₁ ≡ child_field k side → w₁ ≡ cset w f₁ gap (pos p)
    → f₂ ≡ child_field k (not side) → w₂ ≡ cset w₁ f₂ gap (pos q) → f₃ ≡ height_field k → w₃ ≡ cset w₂ f₃ gap (pos h)
    → Joined (node_on side) k side gap p q w w₃ (most_slots + gap)
joined_node {k} {gap} {p} {q} {h} {side} {w} {w₁} {w₂} {w₃} e d₁ e₁ d₂ e₂ d₃ e₃ =
    subst (λ v. Joined (node_on side) k side gap p q w v (most_slots + gap)) (sym all)
    (record { within = wired_within w k side gap p q h; made = λ tp tq pair d. made_node pair gap h d e })
  where
    all : w₃ ≡ wired w k side gap p q h
    all =
        e₃ ∙ ap (λ f. cset w₂ f gap (pos h)) d₃
        ∙ ap (λ v. cset v (height_field k) gap (pos h))
        (e₂ ∙ ap (λ f. cset w₁ f gap (pos q)) d₂ ∙ ap (λ v. cset v (child_field k (not side)) gap (pos q)) (e₁ ∙ ap (λ f. cset w f gap (pos p)) d₁))
