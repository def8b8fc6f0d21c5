-- Theorems on specs/Nodes.
use Rattle.std.specs.Prelude.{◌≡◌, refl, ◌≢◌, Bool, true, false, not, ℕ, suc, ◌+◌, ◌-◌, ◌≤◌, ◌<◌, max, ℤ, pos}
use Rattle.std.proofs.Common.{sym, ◌∙◌, ap, subst, arith}
use mathlib.Core.List.Memᴰ
use mathlib.Core.List.{List, [], ◌∷◌, Memᴰ}
use Rattle.trees.specs.Tree.{Tree, leaf, node, height, leaves, last}
use Rattle.trees.specs.Leaves.{last_leaf}
use Rattle.table.specs.Fields.{most_nodes, most_slots, order_tree}
use Rattle.table.specs.Words.{Words, word, word_out, up_to, up_to_in}
use Rattle.table.specs.Layout.{cap, cap_most, cell, cset, link_at, spot_out, Valid, cset_same}
use Rattle.table.proofs.LayoutLaws.{cset_other}
use Rattle.table.specs.Items.{Item, In, at, in_left, in_right, Slots, slots_left, slots_right, slots_across, height_most}
use Rattle.table.specs.Rep.{child_field, height_field, a_child, a_height, child_at, height_at, ref_of, node_on, seam, Tied, tied_node, tied_still}
use Rattle.table.specs.Rep.{Rep, Within, within_cap, within_refl, within_trans, within_cset, Only, only_trans, Inner, inner_in}
use Rattle.table.proofs.Rep.{only_cset}
use Rattle.table.specs.Rep.{inner_last}
use Rattle.table.specs.Nodes.{Made, Pair, away_one, away_other, child_field_lem, height_on, here, in_single, linked, no_height, on_one, on_other, pair_one, pair_other, ref_high, ref_on, rep_height, seam_in, tied_on, two_children, wired, wired_height, wired_within}

module _ (w : Words) (k : ℕ) (side : Bool) (gap p q h : ℕ) where
  -- the node's slot is the only one written
  wired_only : {xs : List Item} → In gap xs → Only k xs w (wired w k side gap p q h)
  wired_only i =
      only_trans (only_cset w (pos p) (a_child side refl) i)
      (only_trans (only_cset _ (pos q) (a_child (not side) refl) i) (only_cset _ (pos h) (a_height refl) i))

  module _ (kind : k ≤ order_tree) (low : 1 ≤ gap) (high : gap ≤ cap w) where
    wired_one : cell (wired w k side gap p q h) (child_field k side) gap ≡ pos p
    wired_one =
        cset_other _ (height_field k) gap (pos h) (λ e. no_height side kind e.0)
        ∙ cset_other _ (child_field k (not side)) gap (pos q) (λ e. two_children k side e.0)
        ∙ cset_same (pos p) ((here w k side gap p q h kind low high) _ (child_field_lem side kind) (within_refl w))

    wired_other : cell (wired w k side gap p q h) (child_field k (not side)) gap ≡ pos q
    wired_other =
        cset_other _ (height_field k) gap (pos h) (λ e. no_height (not side) kind e.0)
        ∙ cset_same (pos q) ((here w k side gap p q h kind low high) _ (child_field_lem (not side) kind) (within_cset w _ gap (pos p)))

made_here : {w : Words} {k p q : ℕ} {side : Bool} {tp tq : Tree Item} → Pair w k side p q tp tq → (h : ℕ) → h ≡ suc (max (height_at w k p) (height_at w k q))
    → Made k w (wired w k side (seam side tp tq).slot p q h) (most_slots + (seam side tp tq).slot) (node_on side tp tq)
made_here {w} {k} {p} {q} {side} {tp} {tq} pair h e =
    record {
      rep = record { kind = pair.kind; root = sym (ref_on side tp tq); slots = rw (within_cap within) pair.slots; tied = tied };
      only = wired_only w k side gap p q h (at (seam_in side tp tq) refl);
    }
  where
    gap : ℕ
    gap = (seam side tp tq).slot

    w' : Words
    w' = wired w k side gap p q h

    within : Within w w'
    within = wired_within w k side gap p q h

    low : 1 ≤ gap
    low = pair.slots.low (seam_in side tp tq)

    high : gap ≤ cap w
    high = pair.slots.high (seam_in side tp tq)

    one_slot : Only k (seam side tp tq ∷ []) w w'
    one_slot = wired_only w k side gap p q h (at (Memᴰ.head refl) refl)

    tall : h ≡ suc (max (height tp) (height tq))
    tall = omega (arith, e, rep_height (pair_one pair), rep_height (pair_other pair))

    tied : Tied w' k (node_on side tp tq)
    tied =
        tied_on side (tied_still pair.tied_one one_slot (λ s i j. away_one tp tq side pair.slots i (in_single j)))
        (tied_still pair.tied_other one_slot (λ s i j. away_other tp tq side pair.slots i (in_single j)))
        (linked (wired_one w k side gap p q h pair.kind low high) pair.one (ref_high tp (on_one tp tq side pair.slots) (cap_most w)))
        (linked (wired_other w k side gap p q h pair.kind low high) pair.other (ref_high tq (on_other tp tq side pair.slots) (cap_most w)))
        (linked (wired_height w k side gap p q h pair.kind low high) tall (omega (
          arith,
          height_on side tp tq,
          height_most (node_on side tp tq) pair.slots,
          cap_most w,
        )))

-- writing a node's words makes its tree
pub made_node : {w : Words} {k p q : ℕ} {side : Bool} {tp tq : Tree Item} → Pair w k side p q tp tq → (gap h : ℕ) → gap ≡ (seam side tp tq).slot →
    h ≡ suc (max (height_at w k p) (height_at w k q))
    → Made k w (wired w k side gap p q h) (most_slots + gap) (node_on side tp tq)
made_node {w} {k} {p} {q} {side} {tp} {tq} pair gap h d e =
    subst (λ g. Made k w (wired w k side g p q h) (most_slots + g) (node_on side tp tq)) (sym d) (made_here pair h e)
