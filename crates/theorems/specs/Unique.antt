-- The words tell the tree: two trees of one kind whose roots have one number, and whose items the words hold, are one tree.
use Rattle.std.specs.Prelude.{◌≡◌, refl, false, true, ℕ, ◌≤◌}
use Rattle.std.proofs.Common.{sym, ◌∙◌, ap, arith}
use mathlib.Core.List.Memᴰ
use mathlib.Core.List.{List, Memᴰ}
use Rattle.std.proofs.Math.Option.{none, some}
use Rattle.trees.specs.Tree.{Tree, leaf, node, leaves, last}
use Rattle.trees.specs.Leaves.{last_leaf}
use Rattle.trees.specs.Operations.{Part, part_leaves}
use Rattle.table.specs.Fields.{base_field, number_field, rate_field}
use Rattle.table.specs.Words.{Words}
use Rattle.table.specs.Layout.{cap, cap_most, cell, link_at}
use Rattle.table.specs.Items.{Item, Slots}
use Rattle.table.specs.Rep.{child_field, ref_of, Tied, tied_node}
use Rattle.table.specs.PartTrees.{part_ref, TiedPart}
use Rattle.table.specs.Threads.{Held, Holds}

-- an item whose slot is one of the part's and holds its offer
pub record Lies (w : Words) (a : Item) : Type 0 where
  pub low : 1 ≤ a.slot
  pub high : a.slot ≤ cap w
  pub held : Held w a

-- so do all of a list
abbrev pub AllLie : Words → List Item → Type 0
AllLie w xs = (a : Item) → Memᴰ a xs → Lies w a

pub all_lie : {w : Words} {xs : List Item} → Slots (cap w) xs → Holds w xs → AllLie w xs
all_lie s h a m = record { low = s.low m; high = s.high m; held = h.held m }

-- an item is told by its slot
pub same_item : {w : Words} {a b : Item} → Held w a → Held w b → a.slot ≡ b.slot → a ≡ b
same_item {w} {a} {b} h k e = λ i. record { slot = e i; offer = record { number = number i; rate = rate i; base = base i } }
  where
    number : a.offer.number ≡ b.offer.number
    number = sym h.number ∙ ap (λ s. cell w number_field s) e ∙ k.number

    rate : a.offer.rate ≡ b.offer.rate
    rate = sym h.rate ∙ ap (λ s. cell w rate_field s) e ∙ k.rate

    base : a.offer.base ≡ b.offer.base
    base = sym h.base ∙ ap (λ s. cell w base_field s) e ∙ k.base

-- a tree is told by its root's number
pub same_tree : {w : Words} {k : ℕ} (t t' : Tree Item) → AllLie w (leaves t) → AllLie w (leaves t') → Tied w k t → Tied w k t' → ref_of t ≡ ref_of t' → t ≡ t'
same_tree (leaf a) (leaf b) h h' p p' e = ap leaf (same_item (h a (Memᴰ.head refl)).held (h' b (Memᴰ.head refl)).held e)
same_tree {w} (leaf a) (node l r) h h' p p' e =
    absurd (omega (arith, (h a (Memᴰ.head refl)).high, cap_most w, (h' (last l) (Memᴰ.append_left (leaves r) (last_leaf l))).low, e))
same_tree {w} (node l r) (leaf a) h h' p p' e =
    absurd (omega (arith, (h' a (Memᴰ.head refl)).high, cap_most w, (h (last l) (Memᴰ.append_left (leaves r) (last_leaf l))).low, e))
same_tree {w} {k} (node l r) (node l' r') h h' (tied_node pl pr el er eh) (tied_node pl' pr' el' er' eh') e =
    let seam : (last l).slot ≡ (last l').slot = omega (arith, e) in
    let lefts : l ≡ l' =
    same_tree l l' (λ a m. h a (Memᴰ.append_left (leaves r) m)) (λ a m. h' a (Memᴰ.append_left (leaves r') m)) pl pl'
    (sym el ∙ ap (link_at w (child_field k false)) seam ∙ el') in
    let rights : r ≡ r' =
    same_tree r r' (λ a m. h a (Memᴰ.append_right (leaves l) m)) (λ a m. h' a (Memᴰ.append_right (leaves l') m)) pr pr'
    (sym er ∙ ap (link_at w (child_field k true)) seam ∙ er') in
    λ i. node (lefts i) (rights i)

-- a tree has a root
pub some_root : {w : Words} (t : Tree Item) → AllLie w (leaves t) → ref_of t ≡ 0 → ⊥
some_root (leaf a) h e = omega (arith, (h a (Memᴰ.head refl)).low, e)
some_root (node l r) h e = omega (arith, e)

-- also one that may be empty
pub same_part :
    {w : Words} (k : ℕ) (p p' : Part Item) → AllLie w (part_leaves p) → AllLie w (part_leaves p') → TiedPart w k p → TiedPart w k p' → part_ref p ≡ part_ref p' →
    p ≡ p'
same_part k none none h h' q q' e = refl
same_part k none (some t) h h' q q' e = absurd (some_root t h' (sym e))
same_part k (some t) none h h' q q' e = absurd (some_root t h e)
same_part k (some t) (some t') h h' q q' e = ap some (same_tree t t' h h' q q' e)
