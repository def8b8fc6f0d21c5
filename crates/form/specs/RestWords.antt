-- What stays with a node, as it is read: the word that tells it, and the root that is read off that word.
use Rattle.std.specs.Prelude.{◌≡◌, refl, cond, ℕ, ◌+◌, ◌-◌, ◌≤◌, ◌<◌, ltb, ℤ}
use Rattle.std.proofs.Common.{◌∙◌, ap, arith, lt-ltb, le-ltb}
use Rattle.std.proofs.Math.Option.{none, some}
use mathlib.Core.List.Memᴰ
use Rattle.trees.specs.Tree.{leaves, last}
use Rattle.trees.specs.Leaves.{last_leaf}
use Rattle.trees.specs.Operations.{Part, part_leaves}
use Rattle.dynamic.specs.OfferTree.{OfferTree, single, fork, shape}
use Rattle.table.specs.Fields.{inner_rest_field, leaf_rest_field, most_nodes, most_slots}
use Rattle.table.specs.Words.{Words, up_to, up_to_in}
use Rattle.table.specs.Layout.{cap, cap_most, cell, link_at}
use Rattle.table.specs.Items.{Item, Slots}
use Rattle.table.specs.Rep.{ref_of}
use Rattle.table.specs.Nodes.{ref_high}
use Rattle.table.specs.PartTrees.{part_ref}
use Rattle.form.specs.Stored.{node_slot, rest_field, RestIn}

-- the word that tells what stays with node n, and the root that is read off it
abbrev pub rest_word : Words → ℕ → ℤ
rest_word w n = cond (ltb most_slots n) (cell w inner_rest_field (n - most_slots)) (cell w leaf_rest_field n)

abbrev pub rest_at : Words → ℕ → ℕ
rest_at w n = up_to most_nodes (rest_word w n)

rest_word_lem : (w : Words) (t : OfferTree Item) → Slots (cap w) (leaves (shape t)) → rest_word w (ref_of (shape t)) ≡ cell w (rest_field t) (node_slot t)
rest_word_lem w (single a) s = rw (le-ltb most_slots a.slot (omega (arith, s.high (Memᴰ.head refl), cap_most w))) refl
rest_word_lem w (fork u v l ql qr r) s =
    let here : most_slots + (last (shape l)).slot - most_slots ≡ (last (shape l)).slot = omega arith in
    rw (lt-ltb most_slots (most_slots + (last (shape l)).slot) (omega (arith, s.low (Memᴰ.append_left (leaves (shape r)) (last_leaf (shape l))))))
    (ap (cell w inner_rest_field) here)

-- a piece tree's number is that of a node
part_small : {c : ℕ} (q : Part Item) → Slots c (part_leaves q) → c ≤ most_slots → part_ref q ≤ most_nodes
part_small none s h = omega arith
part_small (some t) s h = ref_high t s h

pub rest_at_lem : {w : Words} (t : OfferTree Item) (q : Part Item) → Slots (cap w) (leaves (shape t)) → Slots (cap w) (part_leaves q) → RestIn w t q →
    rest_at w (ref_of (shape t)) ≡ part_ref q
rest_at_lem {w} t q s own h = ap (up_to most_nodes) (rest_word_lem w t s ∙ h.root) ∙ up_to_in most_nodes (part_ref q) (part_small q own (cap_most w))

-- ---- the ways through the code

pub rest_of_inner : (w : Words) (n m r : ℕ) → most_slots < n → m ≡ n - most_slots → r ≡ link_at w inner_rest_field m → r ≡ rest_at w n
rest_of_inner w n m r h d e = rw (lt-ltb most_slots n h) (e ∙ ap (link_at w inner_rest_field) d)

pub rest_of_leaf : (w : Words) (n r : ℕ) → n ≤ most_slots → r ≡ link_at w leaf_rest_field n → r ≡ rest_at w n
rest_of_leaf w n r h e = rw (le-ltb most_slots n h) e
