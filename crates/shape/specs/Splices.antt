-- Join, as steps on words: down the inner spine of the higher tree, and balance on the way back.
use Rattle.std.specs.Prelude.{◌≡◌, Bool, true, false, not, ℕ, suc, ◌-◌, ◌≤◌, ◌<◌, max, ltb}
use Rattle.std.proofs.Common.{sym, ◌∙◌, ap, subst, arith, ltb-true, le-ltb}
use Rattle.trees.specs.Tree.{Tree, leaf, node, height, leaves}
use Rattle.trees.specs.Leaves.{last_leaf}
use Rattle.trees.specs.Operations.{towers}
use Rattle.table.specs.Fields.{most_slots}
use Rattle.table.specs.Words.{Words}
use Rattle.table.specs.Layout.{cap}
use Rattle.table.specs.Items.{Item, Slots, slots_left}
use Rattle.table.specs.Rep.{child_at, height_at, node_on, seam, Rep, Within, within_trans}
use Rattle.table.specs.Nodes.{Pair, pair_one, pair_other, Made, Opened, opened, rep_height, height_on, in_other}
use Rattle.shape.specs.Sides.{balance_on, join_on, on_leaves, seam_last, join_node, join_low, balance_leaves, join_leaves, seam_join}
use Rattle.nodes.specs.Joining.{Joined}
use Rattle.shape.specs.Rows.{Row, row_pair, pair_beside, made_then, made_as}
use Rattle.shape.specs.Rotations.{opened_row, slot_of}

-- the promise of `Joined` for a join along p's spine, where `limit` bounds p's height
pub record Spliced (k : ℕ) (side : Bool) (gap p q limit : ℕ) (w w' : Words) (x : ℕ) : Type 0 where
  pub within : Within w w'
  pub made : (tp tq : Tree Item) → Pair w k side p q tp tq → gap ≡ (seam side tp tq).slot → height tp ≤ limit → Made k w w' x (join_on side tp tq)

-- ---- the test

abbrev pub towers_at : Words → ℕ → ℕ → ℕ → Bool
towers_at w k p q = ltb (suc (height_at w k q)) (height_at w k p)

-- by the two heights as read
pub towers_told : (w : Words) (k p q : ℕ) {hp hq : ℕ} {b : Bool} → hp ≡ height_at w k p → hq ≡ height_at w k q → b ≡ ltb (suc hq) hp → b ≡ towers_at w k p q
towers_told w k p q ep eq eb = rw (eb, ep, eq)

pub towers_read : {w : Words} {k p q : ℕ} {s t : Tree Item} → Rep w k p s → Rep w k q t → towers_at w k p q ≡ towers s t
towers_read a b = rw (rep_height a, rep_height b)

-- a tree that has a height is an inner node's
pub inner_ref : {w : Words} {k x : ℕ} {t : Tree Item} → Rep w k x t → 0 < height t → most_slots < x
inner_ref {t = leaf a} r h = absurd (omega arith)
inner_ref {t = node l s} r h = omega (arith, r.root, (slots_left (leaves s) r.slots).low (last_leaf l))

-- ---- the ways through the code

flat : (t : Tree Item) (u : Tree Item) → height t ≤ 0 → towers t u ≡ false
flat t u h = le-ltb (suc (height u)) (height t) (omega arith)

pub spliced_low : {k gap p q limit x : ℕ} {side b : Bool} {w w' : Words} → b ≡ towers_at w k p q → b ≡ false → Joined (node_on side) k side gap p q w w' x →
    Spliced k side gap p q limit w w' x
spliced_low {side} eb e j =
    record {
      within = j.within;
      made = λ tp tq pair d low. made_as
          (sym (join_low side tp tq (sym (towers_read (pair_one pair) (pair_other pair)) ∙ sym eb ∙ e))) (j.made tp tq pair d);
    }

pub spliced_none : {k gap p q limit x : ℕ} {side : Bool} {w w' : Words} → limit ≡ 0 → Joined (node_on side) k side gap p q w w' x →
    Spliced k side gap p q limit w w' x
spliced_none {side} e j =
    record { within = j.within; made = λ tp tq pair d low. made_as (sym (join_low side tp tq (flat tp tq (omega (arith, low, e))))) (j.made tp tq pair d) }

pub spliced : {k gap p q limit a m g y x : ℕ} {side b : Bool} {w w₁ w₂ : Words} → b ≡ towers_at w k p q → b ≡ true → a ≡ child_at w k side p →
    m ≡ child_at w k (not side) p → g ≡ p - most_slots
    → Spliced k side gap m q (limit - 1) w w₁ y → Joined (balance_on side) k side g a y w₁ w₂ x → Spliced k side gap p q limit w w₂ x
spliced {k} {gap} {p} {q} {limit} {a} {m} {g} {y} {x} {side} {b} {w} {w₁} {w₂} eb e ea em eg rec j =
    record { within = within_trans rec.within j.within; made = made }
  where
    made : (tp tq : Tree Item) → Pair w k side p q tp tq → gap ≡ (seam side tp tq).slot → height tp ≤ limit → Made k w w₂ x (join_on side tp tq)
    made tp tq pair d low =
        made_as (sym shape)
        (made_then lower (j.made ta (join_on side tm tq) (pair_beside side rec.within lower row.one row.tied_one slots)
        (eg ∙ o.seam_at ∙ slot_of (sym (seam_join side ta tm tq))))
        (λ s i. rw (balance_leaves side ta (join_on side tm tq)) (in_other side ta (join_on side tm tq) i)))
      where
        high : towers tp tq ≡ true
        high = sym (towers_read (pair_one pair) (pair_other pair)) ∙ sym eb ∙ e

        o : Opened w k side p tp
        o = opened side (pair_one pair) (inner_ref (pair_one pair) (omega (arith, ltb-true (suc (height tq)) (height tp) high)))

        ta : Tree Item
        ta = o.one

        tm : Tree Item
        tm = o.other

        row : Row w k side a m q ta tm tq
        row = opened_row pair o ea em

        tall : height tp ≡ suc (max (height ta) (height tm))
        tall = ap height o.shape ∙ height_on side ta tm

        lower : Made k w w₁ y (join_on side tm tq)
        lower = rec.made tm tq (row_pair row) (d ∙ slot_of (ap (λ t. seam side t tq) o.shape ∙ seam_last side ta tm tq)) (omega (arith, tall, low))

        slots : Slots (cap w) (leaves (node_on side ta (join_on side tm tq)))
        slots = subst (Slots (cap w)) (on_leaves side ta (node_on side tm tq) (join_on side tm tq) (sym (join_leaves side tm tq))) row.slots

        shape : join_on side tp tq ≡ balance_on side ta (join_on side tm tq)
        shape = ap (λ t. join_on side t tq) o.shape ∙ join_node side ta tm tq ∙ rw (sym (ap (λ t. towers t tq) o.shape) ∙ high)
