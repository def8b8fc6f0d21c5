-- What a node's words say of the tree that it is the root of, and what the words of a new node make of two trees side by side.
use Rattle.std.specs.Prelude.{◌≡◌, refl, ◌≢◌, Bool, true, false, not, ℕ, suc, ◌+◌, ◌-◌, ◌≤◌, ◌<◌, max, ℤ, pos}
use Rattle.std.proofs.Common.{sym, ◌∙◌, ap, subst, arith}
use mathlib.Core.List.Memᴰ
use mathlib.Core.List.{List, [], ◌∷◌, Memᴰ}
use Rattle.trees.specs.Tree.{Tree, leaf, node, height, leaves, last}
use Rattle.trees.specs.Leaves.{last_leaf}
use Rattle.table.specs.Fields.{most_nodes, most_slots, order_tree}
use Rattle.table.specs.Words.{Words, word, word_out, up_to, up_to_in}
use Rattle.table.specs.Layout.{cap, cap_most, cell, cset, link_at, spot_out, Valid, cset_same}
use Rattle.table.specs.Items.{Item, In, at, in_left, in_right, Slots, slots_left, slots_right, slots_across, height_most}
use Rattle.table.specs.Rep.{child_field, height_field, a_child, a_height, child_at, height_at, ref_of, node_on, seam, Tied, tied_node, tied_still}
use Rattle.table.specs.Rep.{Rep, Within, within_cap, within_refl, within_trans, within_cset, Only, only_trans, Inner, inner_in}
use Rattle.table.specs.Rep.{inner_last}

-- ---- the root's number

pub link_none : (w : Words) (f : ℕ) → link_at w f 0 ≡ 0
unfolding cell
link_none w f =
    ap (up_to most_nodes) (ap (word w) (spot_out (λ v. omega (arith, v.low))) ∙ word_out w _ (omega arith)) ∙ up_to_in most_nodes 0 (omega arith)

pub ref_low : {c : ℕ} (t : Tree Item) → Slots c (leaves t) → 1 ≤ ref_of t
ref_low (leaf a) s = s.low (Memᴰ.head refl)
ref_low (node l r) s = omega arith

pub ref_high : {c : ℕ} (t : Tree Item) → Slots c (leaves t) → c ≤ most_slots → ref_of t ≤ most_nodes
ref_high (leaf a) s h = omega (arith, s.high (Memᴰ.head refl))
ref_high (node l r) s h = omega (arith, (slots_left (leaves r) s).high (last_leaf l))

pub rep_height : {w : Words} {k x : ℕ} {t : Tree Item} → Rep w k x t → height_at w k x ≡ height t
rep_height {w} {k} {x} {t = leaf a} h = ap (link_at w (height_field k)) low ∙ link_none w (height_field k)
  where
    low : x - most_slots ≡ 0
    low = omega (arith, h.root, h.slots.high (Memᴰ.head refl), cap_most w)
rep_height {w} {k} {x} {t = node l r} h = ap (link_at w (height_field k)) (omega (arith, h.root)) ∙ stored h.tied
  where
    stored : Tied w k (node l r) → link_at w (height_field k) (last l).slot ≡ suc (max (height l) (height r))
    stored (tied_node tl tr el er eh) = eh

-- ---- an inner node

pub record Parents (w : Words) (k x : ℕ) (l r : Tree Item) : Type 0 where
  pub left_at : child_at w k false x ≡ ref_of l
  pub right_at : child_at w k true x ≡ ref_of r
  pub seam_at : x - most_slots ≡ (last l).slot
  pub tied_left : Tied w k l
  pub tied_right : Tied w k r

pub parents : {w : Words} {k x : ℕ} {l r : Tree Item} → Rep w k x (node l r) → Parents w k x l r
parents {w} {k} {x} {l} {r} h = go h.tied
  where
    here : x - most_slots ≡ (last l).slot
    here = omega (arith, h.root)

    go : Tied w k (node l r) → Parents w k x l r
    go (tied_node tl tr el er eh) =
        record {
          left_at = ap (link_at w (child_field k false)) here ∙ el;
          right_at = ap (link_at w (child_field k true)) here ∙ er;
          seam_at = here;
          tied_left =
              tl;
          tied_right = tr;
        }

-- a leaf has no such number
pub leaf_low : {w : Words} {k x : ℕ} {a : Item} → Rep w k x (leaf a) → x ≤ most_slots
leaf_low {w} h = omega (arith, h.root, h.slots.high (Memᴰ.head refl), cap_most w)

pub node_high : {w : Words} {k x : ℕ} {l r : Tree Item} → Rep w k x (node l r) → most_slots < x
node_high {l} {r} h = omega (arith, h.root, (slots_left (leaves r) h.slots).low (last_leaf l))

-- at an inner node the limit is not used up
pub not_spent : {w : Words} {k x limit : ℕ} (t : Tree Item) → most_slots < x → limit ≡ 0 → Rep w k x t → height t ≤ limit → ⊥
not_spent (leaf a) h e r n = omega (arith, leaf_low r)
not_spent (node l r) h e q n = omega arith

-- the same, seen from a side
pub record Opened (w : Words) (k : ℕ) (side : Bool) (x : ℕ) (t : Tree Item) : Type 0 where
  pub one : Tree Item
  pub other : Tree Item
  pub shape : t ≡ node_on side one other
  pub one_at : child_at w k side x ≡ ref_of one
  pub other_at : child_at w k (not side) x ≡ ref_of other
  pub seam_at : x - most_slots ≡ (seam side one other).slot
  pub tied_one : Tied w k one
  pub tied_other : Tied w k other

pub opened : {w : Words} {k x : ℕ} {t : Tree Item} (side : Bool) → Rep w k x t → most_slots < x → Opened w k side x t
opened {t = leaf a} side h d = absurd (omega (arith, leaf_low h))
opened {w} {k} {x} {t = node l r} side h d = go side (parents h)
  where
    go : (side : Bool) → Parents w k x l r → Opened w k side x (node l r)
    go false p =
        record {
          one = l;
          other = r;
          shape = refl;
          one_at = p.left_at;
          other_at = p.right_at;
          seam_at = p.seam_at;
          tied_one = p.tied_left;
          tied_other =
              p.tied_right;
        }
    go true p =
        record {
          one = r;
          other = l;
          shape = refl;
          one_at = p.right_at;
          other_at = p.left_at;
          seam_at = p.seam_at;
          tied_one = p.tied_right;
          tied_other =
              p.tied_left;
        }

-- ---- two trees side by side

-- node p is the root of tp on a side, node q that of tq on the other
pub record Pair (w : Words) (k : ℕ) (side : Bool) (p q : ℕ) (tp tq : Tree Item) : Type 0 where
  pub kind : k ≤ order_tree
  pub one : p ≡ ref_of tp
  pub other : q ≡ ref_of tq
  pub slots : Slots (cap w) (leaves (node_on side tp tq))
  pub tied_one : Tied w k tp
  pub tied_other : Tied w k tq

-- x is the root of t, and nothing but nodes of t was written
pub record Made (k : ℕ) (w w' : Words) (x : ℕ) (t : Tree Item) : Type 0 where
  pub rep : Rep w' k x t
  pub only : Only k (leaves t) w w'

module _ {c : ℕ} (tp tq : Tree Item) where
  pub on_one : (side : Bool) → Slots c (leaves (node_on side tp tq)) → Slots c (leaves tp)
  on_one false s = slots_left (leaves tq) s
  on_one true s = slots_right (leaves tq) s

  pub on_other : (side : Bool) → Slots c (leaves (node_on side tp tq)) → Slots c (leaves tq)
  on_other false s = slots_right (leaves tp) s
  on_other true s = slots_left (leaves tp) s

  pub on_across : (side : Bool) {n : ℕ} → Slots c (leaves (node_on side tp tq)) → In n (leaves tp) → In n (leaves tq) → ⊥
  on_across false s i j = slots_across (leaves tp) s i j
  on_across true s i j = slots_across (leaves tq) s j i

pub pair_one : {w : Words} {k p q : ℕ} {side : Bool} {tp tq : Tree Item} → Pair w k side p q tp tq → Rep w k p tp
pair_one {side} {tp} {tq} h = record { kind = h.kind; root = h.one; slots = on_one tp tq side h.slots; tied = h.tied_one }

pub pair_other : {w : Words} {k p q : ℕ} {side : Bool} {tp tq : Tree Item} → Pair w k side p q tp tq → Rep w k q tq
pair_other {side} {tp} {tq} h = record { kind = h.kind; root = h.other; slots = on_other tp tq side h.slots; tied = h.tied_other }

pub in_one : (side : Bool) {n : ℕ} (tp tq : Tree Item) → In n (leaves tp) → In n (leaves (node_on side tp tq))
in_one false tp tq i = in_left (leaves tq) i
in_one true tp tq i = in_right (leaves tq) i

pub in_other : (side : Bool) {n : ℕ} (tp tq : Tree Item) → In n (leaves tq) → In n (leaves (node_on side tp tq))
in_other false tp tq i = in_right (leaves tp) i
in_other true tp tq i = in_left (leaves tp) i

pub seam_in : (side : Bool) (tp tq : Tree Item) → Memᴰ (seam side tp tq) (leaves (node_on side tp tq))
seam_in false tp tq = Memᴰ.append_left (leaves tq) (last_leaf tp)
seam_in true tp tq = Memᴰ.append_left (leaves tp) (last_leaf tq)

pub ref_on : (side : Bool) (tp tq : Tree Item) → ref_of (node_on side tp tq) ≡ most_slots + (seam side tp tq).slot
ref_on false tp tq = refl
ref_on true tp tq = refl

pub height_on : (side : Bool) (tp tq : Tree Item) → height (node_on side tp tq) ≡ suc (max (height tp) (height tq))
height_on false tp tq = refl
height_on true tp tq = omega arith

pub tied_on : {w : Words} {k : ℕ} {tp tq : Tree Item} (side : Bool) → Tied w k tp → Tied w k tq →
    link_at w (child_field k side) (seam side tp tq).slot ≡ ref_of tp → link_at w (child_field k (not side)) (seam side tp tq).slot ≡ ref_of tq →
    link_at w (height_field k) (seam side tp tq).slot ≡ suc (max (height tp) (height tq)) → Tied w k (node_on side tp tq)
tied_on false a b ep eq eh = tied_node a b ep eq eh
tied_on true a b ep eq eh = tied_node b a eq ep (omega (arith, eh))

-- ---- a new node

-- the words of a node whose child on a side is p, whose other child is q, and whose height is h
abbrev pub wired : Words → ℕ → Bool → ℕ → ℕ → ℕ → ℕ → Words
wired w k side gap p q h =
    cset (cset (cset w (child_field k side) gap (pos p)) (child_field k (not side)) gap (pos q)) (height_field k) gap (pos h)

pub two_children : (k : ℕ) (side : Bool) → child_field k side ≢ child_field k (not side)
two_children k false e = omega arith
two_children k true e = omega arith

pub no_height : {k : ℕ} (side : Bool) → k ≤ order_tree → child_field k side ≢ height_field k
no_height {k} false h e = omega arith
no_height {k} true h e = omega arith

pub child_field_lem : {k : ℕ} (side : Bool) → k ≤ order_tree → child_field k side < 32
child_field_lem {k} false h = omega arith
child_field_lem {k} true h = omega arith

module _ (w : Words) (k : ℕ) (side : Bool) (gap p q h : ℕ) where
  pub wired_within : Within w (wired w k side gap p q h)
  wired_within = within_trans (within_cset w _ gap (pos p)) (within_trans (within_cset _ _ gap (pos q)) (within_cset _ _ gap (pos h)))

  module _ (kind : k ≤ order_tree) (low : 1 ≤ gap) (high : gap ≤ cap w) where
    pub here : (f : ℕ) {w' : Words} → f < 32 → Within w w' → Valid w' f gap
    here f b g = record { low = low; high = omega (arith, within_cap g); field = b }

    pub wired_height : cell (wired w k side gap p q h) (height_field k) gap ≡ pos h
    wired_height = cset_same (pos h) (here _ (omega arith) (within_trans (within_cset w _ gap (pos p)) (within_cset _ _ gap (pos q))))

-- no inner node of either tree is kept in the new node's slot
module _ {c s : ℕ} (tp tq : Tree Item) where
  pub away_one : (side : Bool) → Slots c (leaves (node_on side tp tq)) → Inner s tp → s ≢ (seam side tp tq).slot
  away_one false h i e = inner_last (slots_left (leaves tq) h) i e
  away_one true h i e = slots_across (leaves tq) h (at (last_leaf tq) e) (inner_in i)

  pub away_other : (side : Bool) → Slots c (leaves (node_on side tp tq)) → Inner s tq → s ≢ (seam side tp tq).slot
  away_other false h i e = slots_across (leaves tp) h (at (last_leaf tp) e) (inner_in i)
  away_other true h i e = inner_last (slots_left (leaves tp) h) i e

pub in_single : {s : ℕ} {a : Item} → In s (a ∷ []) → s ≡ a.slot
in_single (at {a = b} m e) = e ∙ ap (λ (i : Item). i.slot) (Memᴰ.eq_of_singleton m)

-- a field that holds the number n
pub linked : {z : ℤ} {n m : ℕ} → z ≡ pos n → n ≡ m → m ≤ most_nodes → up_to most_nodes z ≡ m
linked {z} {n} {m} e d h = ap (up_to most_nodes) e ∙ ap (λ j. up_to most_nodes (pos j)) d ∙ up_to_in most_nodes m h
