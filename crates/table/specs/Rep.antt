-- Trees kept in words. Four trees are told apart by a number k: 0 the pieces, 1 the offers, 2 the numbers, 3 the order. A node's number is 1 to 4,096 for
-- the leaf of that slot, 4,096 + s for the inner node kept in slot s, and 0 for no tree. An inner node is kept in the slot of the last leaf
-- of its left part, so every node's number follows from the tree. A side is a Bool: false is left.
use Rattle.std.specs.Prelude.{◌≡◌, refl, ◌≢◌, Bool, true, false, List, ℕ, suc, ◌+◌, ◌*◌, ◌-◌, ◌≤◌, ◌<◌, max, length, ℤ}
use Rattle.std.proofs.Common.{sym, ◌∙◌, ap, subst, arith}
use Rattle.trees.specs.Tree.{Tree, leaf, node, height, leaves, last}
use Rattle.trees.specs.Leaves.{last_leaf}
use Rattle.table.specs.Fields.{capacity_word, most_nodes, most_slots, order_tree}
use Rattle.table.specs.Words.{Words, word, up_to}
use Rattle.table.specs.Layout.{cap, cap_of, cell, cset, link_at, link_most, outside_of, Outside, header_outside, cset_length, cset_rest}
use Rattle.table.specs.Items.{Item, In, at, in_left, in_right, Slots, slots_right, slots_across}

-- ---- nodes

abbrev pub bit : Bool → ℕ
bit false = 0
bit true = 1

abbrev pub child_field : ℕ → Bool → ℕ
child_field k side = 4 + 4 * k + bit side

abbrev pub height_field : ℕ → ℕ
height_field k = 24 + k

-- the fields of tree k
pub data Field (k f : ℕ) : Type 0 where
  a_child : (side : Bool) → f ≡ child_field k side → Field k f
  a_height : f ≡ height_field k → Field k f

-- a child of node x, and x's height: 0 where x is no inner node
abbrev pub child_at : Words → ℕ → Bool → ℕ → ℕ
child_at w k side x = link_at w (child_field k side) (x - most_slots)

abbrev pub height_at : Words → ℕ → ℕ → ℕ
height_at w k x = link_at w (height_field k) (x - most_slots)

pub height_at_most : (w : Words) (k x : ℕ) → height_at w k x ≤ most_nodes
height_at_most w k x = link_most w (height_field k) (x - most_slots)

pub height_read : (w : Words) (k x : ℕ) {h : ℕ} → h ≡ height_at w k x → h ≤ most_nodes
height_read w k x e = omega (arith, e, height_at_most w k x)

-- ---- trees by node numbers

abbrev pub ref_of : Tree Item → ℕ
ref_of (leaf a) = a.slot
ref_of (node l r) = most_slots + (last l).slot

-- the tree with p on a side and q on the other
abbrev pub node_on : Bool → Tree Item → Tree Item → Tree Item
node_on false p q = node p q
node_on true p q = node q p

-- the item whose slot keeps that tree's root
abbrev pub seam : Bool → Tree Item → Tree Item → Item
seam false p q = last p
seam true p q = last q

-- the words of tree k are those of t
pub data Tied (w : Words) (k : ℕ) : Tree Item → Type 0 where
  tied_leaf : {a : Item} → Tied w k (leaf a)
  tied_node : {l r : Tree Item} → Tied w k l → Tied w k r
      → link_at w (child_field k false) (last l).slot ≡ ref_of l → link_at w (child_field k true) (last l).slot ≡ ref_of r
      → link_at w (height_field k) (last l).slot ≡ suc (max (height l) (height r)) → Tied w k (node l r)

-- node x of tree k is the root of t
pub record Rep (w : Words) (k x : ℕ) (t : Tree Item) : Type 0 where
  pub kind : k ≤ order_tree
  pub root : x ≡ ref_of t
  pub slots : Slots (cap w) (leaves t)
  pub tied : Tied w k t

-- ---- what a change leaves

-- no word but fields of slots has changed, whatever the words are
pub record Within (w w' : Words) : Type 0 where
  pub long : length w' ≡ length w
  pub rest : (i : ℕ) → Outside w i → word w' i ≡ word w i

pub header_kept : {w w' : Words} → Within w w' → (i : ℕ) → i < 64 → word w' i ≡ word w i
header_kept {w} g i h = g.rest i (header_outside w h)

pub within_cap : {w w' : Words} → Within w w' → cap w' ≡ cap w
within_cap {w} {w'} h = cap_of w w' h.long (header_kept h capacity_word (omega arith))

pub within_refl : (w : Words) → Within w w
within_refl w = record { long = refl; rest = λ i o. refl }

pub within_trans : {w w' w'' : Words} → Within w w' → Within w' w'' → Within w w''
within_trans g h = record { long = h.long ∙ g.long; rest = λ i o. h.rest i (outside_of (within_cap g) o) ∙ g.rest i o }

pub within_cset : (w : Words) (f s : ℕ) (z : ℤ) → Within w (cset w f s z)
within_cset w f s z = record { long = cset_length w f s z; rest = λ i o. cset_rest w f s z o }

-- of the fields, only those of tree k in slots of xs have changed
pub record Only (k : ℕ) (xs : List Item) (w w' : Words) : Type 0 where
  pub cells : (f s : ℕ) → ¬ (Field k f × In s xs) → cell w' f s ≡ cell w f s

pub only_refl : (k : ℕ) (xs : List Item) (w : Words) → Only k xs w w
only_refl k xs w = record { cells = λ f s h. refl }

pub only_trans : {k : ℕ} {xs : List Item} {w w' w'' : Words} → Only k xs w w' → Only k xs w' w'' → Only k xs w w''
only_trans g h = record { cells = λ f s d. h.cells f s d ∙ g.cells f s d }

pub only_more : {k : ℕ} {xs ys : List Item} {w w' : Words} → ((s : ℕ) → In s xs → In s ys) → Only k xs w w' → Only k ys w w'
only_more sub g = record { cells = λ f s d. g.cells f s (λ h. d (h.0, sub s h.1)) }

-- ---- the words of a tree whose nodes were not touched

-- slot s keeps an inner node
pub data Inner (s : ℕ) : Tree Item → Type 0 where
  of_root : {l r : Tree Item} → s ≡ (last l).slot → Inner s (node l r)
  of_left : {l r : Tree Item} → Inner s l → Inner s (node l r)
  of_right : {l r : Tree Item} → Inner s r → Inner s (node l r)

pub inner_in : {s : ℕ} {t : Tree Item} → Inner s t → In s (leaves t)
inner_in (of_root {l} {r} e) = in_left (leaves r) (at (last_leaf l) e)
inner_in (of_left {l} {r} i) = in_left (leaves r) (inner_in i)
inner_in (of_right {l} i) = in_right (leaves l) (inner_in i)

-- no inner node is kept in the last leaf's slot
pub inner_last : {c s : ℕ} {t : Tree Item} → Slots c (leaves t) → Inner s t → s ≢ (last t).slot
inner_last h (of_root {l} {r} d) e = slots_across (leaves l) h (at (last_leaf l) d) (at (last_leaf r) e)
inner_last h (of_left {l} {r} i) e = slots_across (leaves l) h (inner_in i) (at (last_leaf r) e)
inner_last h (of_right {l} {r} i) e = inner_last (slots_right (leaves l) h) i e

pub tied_still : {k : ℕ} {xs : List Item} {w w' : Words} {t : Tree Item} → Tied w k t → Only k xs w w' → ((s : ℕ) → Inner s t → In s xs → ⊥) → Tied w' k t
tied_still tied_leaf g d = tied_leaf
tied_still {k} {xs} {w} {w'} (tied_node {l} {r} tl tr el er eh) g d =
    tied_node (tied_still tl g (λ s i. d s (of_left i))) (tied_still tr g (λ s i. d s (of_right i))) (same _ ∙ el) (same _ ∙ er) (same _ ∙ eh)
  where
    same : (f : ℕ) → link_at w' f (last l).slot ≡ link_at w f (last l).slot
    same f = ap (up_to most_nodes) (g.cells f (last l).slot (λ h. d _ (of_root refl) h.1))
