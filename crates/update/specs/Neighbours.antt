-- Two subtrees side by side, seen from a side, and what raising them or lowering one leaves. One statement serves both sides.
use Rattle.std.specs.Prelude.{◌≡◌, ℕ, suc, ◌-◌, ◌<◌, ◌≤◌, Bool, true, false, refl}
use Rattle.std.proofs.Common.{sym, ◌∙◌, ap, subst, arith}
use mathlib.Core.List.Memᴰ
use mathlib.Core.List.{Memᴰ}
use Rattle.envelopes.specs.Envelope.{Ordered}
use Rattle.envelopes.specs.EnvelopeLaws.{ordered_left, ordered_right}
use Rattle.trees.specs.Tree.{Tree, leaf, node, height, leaves, Avl, avl_node}
use Rattle.trees.specs.Leaves.{last_leaf}
use Rattle.meeting.specs.Machine.{Side, left, right}
use Rattle.dynamic.specs.OfferTree.{Held, held_shape, outer, inner, lower, raise_on}
use Rattle.dynamic.specs.Valid.{Whole}
use Rattle.dynamic.proofs.Raise.{raised_shape, whole_raise}
use Rattle.dynamic.specs.Kept.{held_height, Above, above_turned, Parted}
use Rattle.dynamic.proofs.Kept.{part}
use Rattle.table.specs.Fields.{most_slots, offer_tree, rate_field}
use Rattle.table.specs.Words.{Words}
use Rattle.table.specs.Layout.{cap, cap_most, cell}
use Rattle.table.specs.Items.{Item, Slots}
use Rattle.table.specs.Rep.{ref_of, node_on, seam, height_at, Rep, Within}
use Rattle.table.specs.Nodes.{rep_height, ref_on, seam_in}
use Rattle.pieces.specs.Pieces.{items, item_laws_lem, rate_of}
use Rattle.form.specs.Stored.{HeldIn, Touched}
use Rattle.levels.specs.Levels.{HandIn, MadeIn, LoweredIn, Siblings, RaisedIn}
use Rattle.levels.specs.declared.Held.{Held as InHand}
use Rattle.levels.specs.declared.Made.{Made as Outcome}
use Rattle.levels.specs.declared.Lowered.{Lowered}
use Rattle.update.specs.declared.Opened.{Opened}

-- ---- sides

-- the model's name of a side
abbrev pub side_of : Bool → Side
side_of false = left
side_of true = right

module _ (tp tq : Tree Item) where
  pub ordered_one : (side : Bool) → Ordered items (leaves (node_on side tp tq)) → Ordered items (leaves tp)
  ordered_one false o = ordered_left items (leaves tp) (leaves tq) o
  ordered_one true o = ordered_right items (leaves tq) (leaves tp) o

  pub ordered_other : (side : Bool) → Ordered items (leaves (node_on side tp tq)) → Ordered items (leaves tq)
  ordered_other false o = ordered_right items (leaves tp) (leaves tq) o
  ordered_other true o = ordered_left items (leaves tq) (leaves tp) o

-- the tree alone
pub held_rep : {w : Words} {x e : ℕ} {h : Held Item} → HeldIn w x e h → Rep w offer_tree x (held_shape h)
held_rep held = record { kind = omega arith; root = held.root; slots = held.slots; tied = held.tied }

-- the height that the words tell is the tree's
pub held_height_lem : {w : Words} {x e : ℕ} {h : Held Item} → HeldIn w x e h → height_at w offer_tree x ≡ held_height h
held_height_lem held = rep_height (held_rep held)

-- a subtree of some height is an inner node
pub held_inner : {w : Words} {x e : ℕ} {h : Held Item} → HeldIn w x e h → 1 ≤ held_height h → most_slots < x
held_inner {w} {x} {h} held high = go (held_shape h) held.root held.slots high
  where
    go : (t : Tree Item) → x ≡ ref_of t → Slots (cap w) (leaves t) → 1 ≤ height t → most_slots < x
    go (leaf a) e s p = absurd (omega arith)
    go (node l r) e s p = omega (arith, s.low (Memᴰ.append_left (leaves r) (last_leaf l)))

-- and an inner node is of some height
pub inner_high : {w : Words} {x e : ℕ} {h : Held Item} → HeldIn w x e h → most_slots < x → 1 ≤ held_height h
inner_high {w} {x} {h} held d = go (held_shape h) held.root held.slots
  where
    go : (t : Tree Item) → x ≡ ref_of t → Slots (cap w) (leaves t) → 1 ≤ height t
    go (leaf a) e s = absurd (omega (arith, s.high (Memᴰ.head refl), cap_most w))
    go (node l r) e s = omega arith

-- ---- what is given

-- o on a side and i on the other; `gap` is the slot of the seam
pub record Neighbours (side : Bool) (w : Words) (gap : ℕ) (x y : InHand) (o i : Held Item) : Type 0 where
  pub outer_held : HandIn w x o
  pub inner_held : HandIn w y i
  pub at_seam : gap ≡ (seam side (held_shape o) (held_shape i)).slot
  pub slots : Slots (cap w) (leaves (node_on side (held_shape o) (held_shape i)))
  pub ordered : Ordered items (leaves (node_on side (held_shape o) (held_shape i)))

pub siblings_left : {w : Words} {gap : ℕ} {x y : InHand} {l r : Held Item} → Siblings w gap x y l r → Neighbours false w gap x y l r
siblings_left h = record { outer_held = h.left; inner_held = h.right; at_seam = h.seam; slots = h.slots; ordered = h.ordered }

pub siblings_right : {w : Words} {gap : ℕ} {x y : InHand} {l r : Held Item} → Siblings w gap x y l r → Neighbours true w gap y x r l
siblings_right h = record { outer_held = h.right; inner_held = h.left; at_seam = h.seam; slots = h.slots; ordered = h.ordered }

pub neighbours_left : {w : Words} {gap : ℕ} {x y : InHand} {o i : Held Item} → Neighbours false w gap x y o i → Siblings w gap x y o i
neighbours_left h = record { left = h.outer_held; right = h.inner_held; seam = h.at_seam; slots = h.slots; ordered = h.ordered }

pub neighbours_right : {w : Words} {gap : ℕ} {x y : InHand} {o i : Held Item} → Neighbours true w gap x y o i → Siblings w gap y x i o
neighbours_right h = record { left = h.inner_held; right = h.outer_held; seam = h.at_seam; slots = h.slots; ordered = h.ordered }

-- ---- lower and raise from a side

pub record LoweredOn (side : Bool) (x : InHand) (w w' : Words) (c : Opened) : Type 0 where
  pub within : Within w w'
  pub outer_held : (h : Held Item) → HandIn w x h → most_slots < x.tree → HandIn w' c.on (outer (side_of side) (lower items h))
  pub inner_held : (h : Held Item) → HandIn w x h → most_slots < x.tree → HandIn w' c.off (inner (side_of side) (lower items h))
  pub touched : (h : Held Item) → HandIn w x h → most_slots < x.tree → Touched (leaves (held_shape h)) w w'

pub lowered_left : {x : InHand} {c : Lowered} {w w' : Words} → LoweredIn x w w' c → LoweredOn false x w w' (record { on = c.left; off = c.right })
lowered_left c = record { within = c.within; outer_held = c.front; inner_held = c.back; touched = c.touched }

pub lowered_right : {x : InHand} {c : Lowered} {w w' : Words} → LoweredIn x w w' c → LoweredOn true x w w' (record { on = c.right; off = c.left })
lowered_right c = record { within = c.within; outer_held = c.back; inner_held = c.front; touched = c.touched }

pub record RaisedOn (side : Bool) (gap : ℕ) (x y : InHand) (w w' : Words) (m : Outcome) : Type 0 where
  pub within : Within w w'
  pub made : (o i : Held Item) → Neighbours side w gap x y o i → Avl (node_on side (held_shape o) (held_shape i)) → MadeIn w' m (raise_on items (side_of side) o i)
  pub touched :
      (o i : Held Item) → Neighbours side w gap x y o i → Avl (node_on side (held_shape o) (held_shape i)) →
      Touched (leaves (node_on side (held_shape o) (held_shape i))) w w'

pub raised_left : {gap : ℕ} {x y : InHand} {m : Outcome} {w w' : Words} → RaisedIn gap x y w w' m → RaisedOn false gap x y w w' m
raised_left c = record { within = c.within; made = λ o i n. c.made o i (neighbours_left n); touched = λ o i n. c.touched o i (neighbours_left n) }

pub raised_right : {gap : ℕ} {x y : InHand} {m : Outcome} {w w' : Words} → RaisedIn gap y x w w' m → RaisedOn true gap x y w w' m
raised_right c = record { within = c.within; made = λ o i n. c.made i o (neighbours_right n); touched = λ o i n. c.touched i o (neighbours_right n) }

-- ---- what they leave

-- h lowered: o and i are its children
pub record Opens (side : Bool) (w w' : Words) (x : InHand) (c : Opened) (h o i : Held Item) : Type 0 where
  pub outer_held : HandIn w' c.on o
  pub inner_held : HandIn w' c.off i
  pub at_seam : x.tree - most_slots ≡ (seam side (held_shape o) (held_shape i)).slot
  pub shaped : held_shape h ≡ node_on side (held_shape o) (held_shape i)
  pub level : Above o i h
  pub touched : Touched (leaves (held_shape h)) w w'

module _ (h : Held Item) (w : Whole items h) (high : 1 ≤ held_height h) where
  lowers_to : Parted items h (lower items h)
  lowers_to = part items item_laws_lem h w high

  lower_shape : (side : Bool) → held_shape h ≡ node_on side (held_shape (outer (side_of side) (lower items h))) (held_shape (inner (side_of side) (lower items h)))
  lower_shape false = lowers_to.forked
  lower_shape true = lowers_to.forked

  lower_level : (side : Bool) → Above (outer (side_of side) (lower items h)) (inner (side_of side) (lower items h)) h
  lower_level false = lowers_to.level
  lower_level true = above_turned lowers_to.level

pub opens :
    {side : Bool} {x : InHand} {c : Opened} {w w' : Words} {h : Held Item} →
    LoweredOn side x w w' c →
    HandIn w x h →
    1 ≤ held_height h →
    Opens side w w' x c h (outer (side_of side) (lower items h)) (inner (side_of side) (lower items h))
opens {side} {h} c held high =
    let d = held_inner held high in
    let e = lower_shape h held.right high side in
    record {
      outer_held = c.outer_held h held d;
      inner_held = c.inner_held h held d;
      at_seam = omega (arith, held.root ∙ ap ref_of e ∙ ref_on side _ _);
      shaped = e;
      level = lower_level h held.right high side;
      touched = c.touched h held d;
    }

-- the rate of the separator
pub seam_rate :
    {side : Bool} {w w' : Words} {m : ℕ} {x : InHand} {c : Opened} {h o i : Held Item} →
    HandIn w x h →
    Opens side w w' x c h o i →
    m ≡ x.tree - most_slots →
    cell w rate_field m ≡ rate_of (seam side (held_shape o) (held_shape i))
seam_rate {side} {w} {o} {i} held p d =
    ap (cell w rate_field) (d ∙ p.at_seam)
    ∙ (held.kept.held (subst (λ t. Memᴰ (seam side (held_shape o) (held_shape i)) (leaves t)) (sym p.shaped)
    (seam_in side (held_shape o) (held_shape i)))).rate

-- o and i raised to one
pub record Raises (side : Bool) (w w' : Words) (m : Outcome) (o i : Held Item) : Type 0 where
  pub made : MadeIn w' m (raise_on items (side_of side) o i)
  pub shaped : held_shape (raise_on items (side_of side) o i).held ≡ node_on side (held_shape o) (held_shape i)
  pub touched : Touched (leaves (node_on side (held_shape o) (held_shape i))) w w'

module _ (o i : Held Item) (wo : Whole items o) (wi : Whole items i) (p : held_height o ≤ suc (held_height i)) (q : held_height i ≤ suc (held_height o)) where
  level_avl : (side : Bool) → Avl (node_on side (held_shape o) (held_shape i))
  level_avl false = avl_node wo.balanced wi.balanced p q
  level_avl true = avl_node wi.balanced wo.balanced q p

  raise_shape :
      (side : Bool) →
      Ordered items (leaves (node_on side (held_shape o) (held_shape i))) →
      held_shape (raise_on items (side_of side) o i).held ≡ node_on side (held_shape o) (held_shape i)
  raise_shape false g = raised_shape items (whole_raise items item_laws_lem wo wi g (level_avl false))
  raise_shape true g = raised_shape items (whole_raise items item_laws_lem wi wo g (level_avl true))

pub raises :
    {side : Bool} {gap : ℕ} {x y : InHand} {m : Outcome} {w w' : Words} {o i : Held Item} →
    RaisedOn side gap x y w w' m →
    Neighbours side w gap x y o i →
    held_height o ≤ suc (held_height i) →
    held_height i ≤ suc (held_height o) →
    Raises side w w' m o i
raises {side} {o} {i} c n p q =
    let wo = n.outer_held.right in
    let wi = n.inner_held.right in
    let avl = level_avl o i wo wi p q side in
    record { made = c.made o i n avl; shaped = raise_shape o i wo wi p q side n.ordered; touched = c.touched o i n avl }
