-- A balanced tree laid out in words: each leaf is the item that its slot holds. The words determine the tree.
use Rattle.std.specs.Prelude.{◌≡◌, refl, true, false, ℕ, suc, ◌-◌, ◌≤◌, ◌<◌, max, pos, length}
use Rattle.std.proofs.Common.{sym, ◌∙◌, ap, ap₂, ⊎_elim, arith}
use mathlib.Core.List.Memᴰ
use mathlib.Core.List.{List, [], ◌∷◌, ◌++◌, map, Memᴰ}
use Rattle.std.proofs.Math.Option.{none, some}
use Rattle.trees.specs.Tree.{Tree, leaf, node, height, leaves, last, Avl, avl_node}
use Rattle.trees.specs.Leaves.{last_leaf}
use Rattle.trees.specs.Operations.{Part, part_leaves}
use Rattle.table.specs.Fields.{base_field, most_nodes, most_slots, number_field, rate_field}
use Rattle.table.specs.Words.{Words, word, up_to, up_to_in}
use Rattle.table.specs.Layout.{cap, cap_most, cell, link_at}
use Rattle.table.specs.Items.{Item}
use Rattle.table.specs.Rep.{child_field, height_field, child_at, height_at, ref_of, Tied, tied_node}
use Rattle.table.specs.PartTrees.{part_ref}

-- ---- items by their slots

-- what slot s holds
abbrev pub item_at : Words → ℕ → Item
item_at w s = record { slot = s; offer = record { number = cell w number_field s; rate = cell w rate_field s; base = cell w base_field s } }

abbrev pub items_at : Words → List ℕ → List Item
items_at w ss = map (item_at w) ss

abbrev pub slots_of : List Item → List ℕ
slots_of xs = map (λ (a : Item). a.slot) xs

-- the item is the one that its slot holds
pub record Placed (w : Words) (a : Item) : Type 0 where
  pub low : 1 ≤ a.slot
  pub high : a.slot ≤ cap w
  pub is : a ≡ item_at w a.slot

abbrev pub AllPlaced : Words → List Item → Type 0
AllPlaced w xs = (a : Item) → Memᴰ a xs → Placed w a

pub placed_at : {w : Words} {s : ℕ} → 1 ≤ s → s ≤ cap w → Placed w (item_at w s)
placed_at l h = record { low = l; high = h; is = refl }

pub items_back : {w : Words} (xs : List Item) → AllPlaced w xs → items_at w (slots_of xs) ≡ xs
items_back [] p = refl
items_back (a ∷ xs) p = ap₂ ◌∷◌ (sym (p a (Memᴰ.head refl)).is) (items_back xs (λ b m. p b (Memᴰ.tail m)))

pub slots_back : (w : Words) (ss : List ℕ) → slots_of (items_at w ss) ≡ ss
slots_back w [] = refl
slots_back w (s ∷ ss) = ap (λ (zs : List ℕ). s ∷ zs) (slots_back w ss)

pub slots_append : (xs ys : List Item) → slots_of (xs ++ ys) ≡ slots_of xs ++ slots_of ys
slots_append [] ys = refl
slots_append (a ∷ xs) ys = ap (λ (zs : List ℕ). a.slot ∷ zs) (slots_append xs ys)

pub slots_length : (xs : List Item) → length (slots_of xs) ≡ length xs
slots_length [] = refl
slots_length (a ∷ xs) = ap suc (slots_length xs)

pub items_length : (w : Words) (ss : List ℕ) → length (items_at w ss) ≡ length ss
items_length w [] = refl
items_length w (s ∷ ss) = ap suc (items_length w ss)

-- ---- trees

pub record Laid (w : Words) (k x : ℕ) (t : Tree Item) : Type 0 where
  pub root : x ≡ ref_of t
  pub placed : AllPlaced w (leaves t)
  pub tied : Tied w k t
  pub balanced : Avl t

-- a node's children
pub record Children (w : Words) (k x : ℕ) (l r : Tree Item) : Type 0 where
  pub left : Laid w k (child_at w k false x) l
  pub right : Laid w k (child_at w k true x) r
  pub seam : x - most_slots ≡ (last l).slot
  pub stored : height_at w k x ≡ suc (max (height l) (height r))
  pub level : height l ≤ suc (height r)
  pub level' : height r ≤ suc (height l)

module _ {w : Words} {k x : ℕ} where
  pub laid_leaf_low : {a : Item} → Laid w k x (leaf a) → x ≤ most_slots
  laid_leaf_low {a} h = omega (arith, h.root, (h.placed a (Memᴰ.head refl)).high, cap_most w)

  pub laid_node_high : {l r : Tree Item} → Laid w k x (node l r) → most_slots < x
  laid_node_high {l} {r} h = omega (arith, h.root, (h.placed (last l) (Memᴰ.append_left (leaves r) (last_leaf l))).low)

  pub laid_children : {l r : Tree Item} → Laid w k x (node l r) → Children w k x l r
  laid_children {l} {r} h = go h.tied h.balanced
    where
      here : x - most_slots ≡ (last l).slot
      here = omega (arith, h.root)

      go : Tied w k (node l r) → Avl (node l r) → Children w k x l r
      go (tied_node tl tr el er eh) (avl_node al ar hl hr) =
          record {
            left = record {
              root = ap (link_at w (child_field k false)) here ∙ el;
              placed = λ a m. h.placed a (Memᴰ.append_left (leaves r) m);
              tied = tl;
              balanced = al;
            };
            right = record {
              root = ap (link_at w (child_field k true)) here ∙ er;
              placed = λ a m. h.placed a (Memᴰ.append_right (leaves l) m);
              tied = tr;
              balanced = ar;
            };
            seam = here;
            stored = ap (link_at w (height_field k)) here ∙ eh;
            level = hl;
            level' = hr;
          }

  pub laid_node : {l r : Tree Item} → Laid w k (child_at w k false x) l → Laid w k (child_at w k true x) r → x - most_slots ≡ (last l).slot → most_slots < x →
      height_at w k x ≡ suc (max (height l) (height r)) → height l ≤ suc (height r) → height r ≤ suc (height l) → Laid w k x (node l r)
  laid_node {l} {r} a b here d eh hl hr =
      record {
        root = omega arith;
        placed = λ c m. ⊎_elim (a.placed c) (b.placed c) (Memᴰ.append_cases (leaves l) m);
        tied =
            tied_node a.tied b.tied (sym (ap (link_at w (child_field k false)) here) ∙ a.root) (sym (ap (link_at w (child_field k true)) here) ∙ b.root)
            (sym (ap (link_at w (height_field k)) here) ∙ eh);
        balanced = avl_node a.balanced b.balanced hl hr;
      }

-- one tree for one root
pub laid_unique : {w : Words} {k x : ℕ} (s t : Tree Item) → Laid w k x s → Laid w k x t → s ≡ t
laid_unique {w} (leaf a) (leaf b) p q =
    let e : a.slot ≡ b.slot = omega (arith, p.root, q.root) in
    ap leaf ((p.placed a (Memᴰ.head refl)).is ∙ ap (item_at w) e ∙ sym (q.placed b (Memᴰ.head refl)).is)
laid_unique (leaf a) (node l r) p q = absurd (omega (arith, laid_leaf_low p, laid_node_high q))
laid_unique (node l r) (leaf a) p q = absurd (omega (arith, laid_leaf_low q, laid_node_high p))
laid_unique {w = w} {k = k} {x = x} (node l r) (node l' r') p q =
    let a = laid_children p in
    let b = laid_children q in
    ap₂ node (laid_unique {x = child_at w k false x} l l' a.left b.left) (laid_unique {x = child_at w k true x} r r' a.right b.right)

-- ---- the number of a root

pub ref_low : {w : Words} (t : Tree Item) → AllPlaced w (leaves t) → 1 ≤ ref_of t
ref_low (leaf a) p = (p a (Memᴰ.head refl)).low
ref_low (node l r) p = omega arith

ref_high : {w : Words} (t : Tree Item) → AllPlaced w (leaves t) → ref_of t ≤ most_nodes
ref_high {w} (leaf a) p = omega (arith, (p a (Memᴰ.head refl)).high, cap_most w)
ref_high {w} (node l r) p = omega (arith, (p (last l) (Memᴰ.append_left (leaves r) (last_leaf l))).high, cap_most w)

part_high : {w : Words} (p : Part Item) → AllPlaced w (part_leaves p) → part_ref p ≤ most_nodes
part_high none q = omega arith
part_high (some t) q = ref_high t q

-- a word of the header that is it reads as it
pub root_read : {w : Words} (i : ℕ) {x : ℕ} (p : Part Item) → AllPlaced w (part_leaves p) → x ≡ up_to most_nodes (word w i) → word w i ≡ pos (part_ref p) →
    x ≡ part_ref p
root_read i p q e d = e ∙ ap (up_to most_nodes) d ∙ up_to_in most_nodes (part_ref p) (part_high p q)
