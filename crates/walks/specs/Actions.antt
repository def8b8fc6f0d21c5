-- What an action makes of a walk whose node was noted above its stack's top.
use Rattle.std.specs.Prelude.{ℕ, ◌+◌, ◌-◌, ◌≤◌, ◌<◌, ◌≡◌, refl, Bool, true, false, not, List, get_or, set}
use Rattle.std.proofs.Common.{arith, ◌∙◌, length-set, get_or-set_other}
use Rattle.meeting.specs.Machine.{Half}
use Rattle.table.specs.Fields.{most_levels, most_slots, piece_tree}
use Rattle.table.specs.Words.{Words}
use Rattle.table.specs.Items.{Item}
use Rattle.table.specs.Rep.{child_at}
use Rattle.walks.specs.declared.Action.{Action}
use Rattle.walks.specs.declared.Action.TheVariants.{Stay, Retreat, Advance, Pop}
use Rattle.walks.specs.declared.Move.{Move}
use Rattle.walks.specs.declared.Stand.{Stand}
use Rattle.walks.specs.Walks.{Walk, Stood, stacks_set}
use Rattle.walks.specs.CodeMoves.{Topped, top_in, topped_by, Retreated, Advanced, Popped, retreat_leaf, retreat_node, advance_leaf, advance_full}
use Rattle.walks.specs.CodeMoves.{advance_node, pop_empty, pop_node}

abbrev pub walk : ℕ → List ℕ → ℕ → Walk
walk at stack depth = record { at = at; stack = stack; depth = depth }

-- the node is written where an advance finds it pushed; a full stack is left as it is
pub data Noted (st : List ℕ) (d x : ℕ) : List ℕ → Type 0 where
  noted : d < most_levels → Noted st d x (set st d x)
  full : most_levels ≤ d → Noted st d x st

-- by the code's test
pub noted_by : {st st' : List ℕ} {d x : ℕ} → d < most_levels → st' ≡ set st d x → Noted st d x st'
noted_by k e = rw e (noted k)

pub full_by : {st st' : List ℕ} {d x : ℕ} → most_levels ≤ d → st' ≡ st → Noted st d x st'
full_by k e = rw e (full k)

noted_stood : {w : Words} {st st' : List ℕ} {a d x : ℕ} {m : Half Item} → Noted st d x st' → Stood w (walk a st d) m → Stood w (walk a st' d) m
noted_stood {st} {d = d} {x = x} (noted k) s =
    record { here = s.here; stacks = stacks_set d x (omega arith) s.stacks; room = length-set st d x ∙ s.room }
noted_stood (full k) s = s

-- the top stays
pub noted_top : {h : Walk} {st : List ℕ} {t : ℕ} → Noted h.stack h.depth h.at st → t ≡ top_in st h.depth → Topped h t
noted_top {h} {st} n e = topped_by st (same n) e
  where
    same : {st : List ℕ} → Noted h.stack h.depth h.at st → (i : ℕ) → i < h.depth → get_or st i 0 ≡ get_or h.stack i 0
    same (noted k) i l = get_or-set_other h.stack h.depth i h.at 0 (λ q. omega arith)
    same (full k) i l = refl

noted_set : {st st' : List ℕ} {d x : ℕ} → Noted st d x st' → d < most_levels → st' ≡ set st d x
noted_set (noted k) h = refl
noted_set (full k) h = absurd (omega arith)

-- ---- the promises

pub record Retreats (w : Words) (side : Bool) (at r : ℕ) : Type 0 where
  pub moved : {st st' : List ℕ} {d : ℕ} → Noted st d at st' → Retreated w side (walk at st d) (walk r st' d)

pub record Advances (w : Words) (side : Bool) (at d : ℕ) (r : Stand) : Type 0 where
  pub moved : {st st' : List ℕ} → Noted st d at st' → Advanced w side (walk at st d) (walk r.at st' r.depth)

pub record Pops (w : Words) (side : Bool) (d top : ℕ) (r : Stand) : Type 0 where
  pub moved : {st st' : List ℕ} {at : ℕ} → Noted st d at st' → Topped (walk at st d) top → Popped w side (walk at st d) (walk r.at st' r.depth)

pub record Stays (w : Words) (h r : Walk) : Type 0 where
  pub at : r.at ≡ h.at
  pub moved : {m : Half Item} → Stood w h m → Stood w r m

abbrev pub Does : Words → Bool → Action → Walk → Walk → Type 0
Does w side Stay h r = Stays w h r
Does w side Retreat h r = Retreated w side h r
Does w side Advance h r = Advanced w side h r
Does w side Pop h r = Popped w side h r

pub record Acts (w : Words) (side : Bool) (action : Action) (at d top : ℕ) (r : Stand) : Type 0 where
  pub moved : {st st' : List ℕ} → Noted st d at st' → Topped (walk at st d) top → Does w side action (walk at st d) (walk r.at st' r.depth)

-- two actions, the first of the given side
abbrev pub sided : Bool → Action → Action → Move
sided false a b = record { u = a; v = b }
sided true a b = record { u = b; v = a }

-- ---- each answer of the code

module _ {w : Words} {side : Bool} {at : ℕ} where
  pub retreats_leaf : at ≤ most_slots → Retreats w side at at
  retreats_leaf k = record { moved = λ n. record { moved = λ s. retreat_leaf side (noted_stood n s) k } }

  pub retreats_node : {x : ℕ} → most_slots < at → x ≡ child_at w piece_tree side at → Retreats w side at x
  retreats_node {x} k e = record { moved = λ n. record { moved = λ s. retreat_node side (noted_stood n s) k x e } }

  module _ {d : ℕ} where
    pub advances_leaf : at ≤ most_slots → Advances w side at d (record { at = at; depth = d })
    advances_leaf k = record { moved = λ n. record { moved = λ s b. advance_leaf side (noted_stood n s) k } }

    pub advances_full : {r : Stand} → most_slots < at → most_levels ≤ d → Advances w side at d r
    advances_full k f = record { moved = λ n. record { moved = λ s b. absurd (advance_full side s k b f) } }

    pub advances_node : {x : ℕ} → most_slots < at → d < most_levels → x ≡ child_at w piece_tree (not side) at →
        Advances w side at d (record { at = x; depth = d + 1 })
    advances_node {x} k f e = record { moved = λ n. rw (noted_set n f) (record { moved = λ s b. advance_node side s k f x e }) }

module _ {w : Words} {side : Bool} {d top : ℕ} where
  pub pops_none : {r : Stand} → d < 1 → Pops w side d top r
  pops_none k = record { moved = λ n t. record { moved = λ s. absurd (pop_empty s k) } }

  pub pops_node : {x : ℕ} → x ≡ child_at w piece_tree side top → Pops w side d top (record { at = x; depth = d - 1 })
  pops_node {x} e = record { moved = λ n t. record { moved = λ s. pop_node (noted_stood n s) side x top (t.is s) e } }

module _ {w : Words} {side : Bool} {action : Action} {at d top : ℕ} where
  pub acts_stay : action ≡ Stay → Acts w side action at d top (record { at = at; depth = d })
  acts_stay e = rw e (record { moved = λ n t. record { at = refl; moved = λ s. noted_stood n s } })

  pub acts_retreat : {x : ℕ} → action ≡ Retreat → Retreats w side at x → Acts w side action at d top (record { at = x; depth = d })
  acts_retreat e a = rw e (record { moved = λ n t. a.moved n })

  pub acts_advance : {r : Stand} → action ≡ Advance → Advances w side at d r → Acts w side action at d top r
  acts_advance e a = rw e (record { moved = λ n t. a.moved n })

  pub acts_pop : {r : Stand} → action ≡ Pop → Pops w side d top r → Acts w side action at d top r
  acts_pop e a = rw e (record { moved = λ n t. a.moved n t })

-- a walk that stays, once its node was noted
pub stays_noted : (w : Words) (side : Bool) (action : Action) {st st' : List ℕ} {at d : ℕ} → action ≡ Stay → Noted st d at st'
    → Does w side action (walk at st d) (walk at st' d)
stays_noted w side action e n = rw e (record { at = refl; moved = λ s. noted_stood n s })
