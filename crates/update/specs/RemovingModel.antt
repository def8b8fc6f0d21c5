-- One level of a removal in the model, seen from the side where the line stands: which of the two ways it takes, and the row that it leaves.
use Rattle.std.specs.Prelude.{◌≡◌, ℕ, ◌≤◌, Bool, true, false, T, List, ◌++◌}
use Rattle.std.proofs.Common.{sym, ◌∙◌, ap, subst, ⊎_elim, arith}
use mathlib.Core.List.Memᴰ
use mathlib.Core.List.Sublistᴰ
use mathlib.Core.List.{Memᴰ}
use Rattle.std.proofs.Math.Option.{Option}
use Rattle.lists.specs.Bools.{or_left, or_right}
use Rattle.lists.specs.Places.{sublist_mem}
use Rattle.envelopes.specs.Envelope.{Ordered}
use Rattle.envelopes.specs.EnvelopeLaws.{ordered_left, ordered_apart}
use Rattle.trees.specs.Tree.{Tree, height, leaves, last}
use Rattle.trees.specs.Leaves.{last_leaf}
use Rattle.trees.specs.Operations.{Part}
use Rattle.dynamic.specs.OfferTree.{OfferTree, single, fork, shape, Held, hold, held_shape, outer, inner, lower, lower_tree}
use Rattle.dynamic.specs.Updates.{Removed, beside_left, beside_right, remove}
use Rattle.dynamic.specs.Valid.{stand_in, instead}
use Rattle.dynamic.specs.Rearranged.{rearranged_mem}
use Rattle.dynamic.specs.Kept.{held_height}
use Rattle.dynamic.specs.Placed.{all_before, instead_append, instead_all, instead_rearranged}
use Rattle.table.specs.Items.{Item, at, Slots, slots_sublist}
use Rattle.table.specs.Rep.{node_on, seam}
use Rattle.pieces.specs.Pieces.{items, item_laws_lem}
use Rattle.form.specs.Frames.{Inside, slots_rearranged}
use Rattle.update.specs.Neighbours.{side_of}

-- ---- which way

-- a child that is left on a side, beside its sibling
abbrev pub beside_on : Bool → Removed Item → Held Item → Removed Item
beside_on false m i = beside_right items m i
beside_on true m i = beside_left items i m

module _ (a : Item) (by : Option Item) where
  remove_fork :
      (side : Bool) (u v : Item) (l r : OfferTree Item) (ql qr p : Part Item) →
      items.before (last (shape l)) a ≡ side →
      remove items a by (fork u v l ql qr r) p
      ≡ beside_on side (remove items a by (outer (side_of side) (lower items (hold (fork u v l ql qr r) p))).tree
      (outer (side_of side) (lower items (hold (fork u v l ql qr r) p))).whole)
      (inner (side_of side) (lower items (hold (fork u v l ql qr r) p)))
  unfolding remove lower_tree
  remove_fork false u v l r ql qr p d = rw d
  remove_fork true u v l r ql qr p d = rw d

  pub remove_on :
      (side : Bool) (h : Held Item) →
      1 ≤ held_height h →
      items.before (seam side (held_shape (outer (side_of side) (lower items h))) (held_shape (inner (side_of side) (lower items h)))) a ≡ side →
      remove items a by h.tree h.whole
      ≡ beside_on side (remove items a by (outer (side_of side) (lower items h)).tree (outer (side_of side) (lower items h)).whole)
      (inner (side_of side) (lower items h))
  unfolding lower_tree
  remove_on side h high d = go side h.tree h.whole high d
    where
      go :
          (side : Bool) (t : OfferTree Item) (p : Part Item) →
          1 ≤ height (shape t) →
          items.before (seam side (held_shape (outer (side_of side) (lower items (hold t p)))) (held_shape (inner (side_of side) (lower items (hold t p))))) a
          ≡ side →
          remove items a by t p
          ≡ beside_on side (remove items a by (outer (side_of side) (lower items (hold t p))).tree (outer (side_of side) (lower items (hold t p))).whole)
          (inner (side_of side) (lower items (hold t p)))
      go side (single b) p high d = absurd (omega arith)
      go false (fork u v l ql qr r) p high d = remove_fork false u v l r ql qr p d
      go true (fork u v l ql qr r) p high d = remove_fork true u v l r ql qr p d

-- ---- where the line stands

module _ (a : Item) (O I : Tree Item) where
  pub stands_on :
      (side : Bool) →
      Ordered items (leaves (node_on side O I)) →
      Memᴰ a (leaves (node_on side O I)) →
      items.before (seam side O I) a ≡ side →
      Memᴰ a (leaves O)
  stands_on false o m d =
      ⊎_elim
      (λ i. i)
      (λ i. absurd (subst T d (ordered_apart items (leaves O) (leaves I) o (last O) a (last_leaf O) i)))
      (Memᴰ.append_cases (leaves O) m)
  stands_on true o m d =
      ⊎_elim
      (λ i. absurd (item_laws_lem.before_irrefl a (all_before items item_laws_lem a I (ordered_left items (leaves I) (leaves O) o) (subst T (sym d) tt) a i)))
      (λ i. i)
      (Memᴰ.append_cases (leaves I) m)

-- ---- the row that it leaves: G is O with the stand-in, or nothing, for the line

module _ (a : Item) (by : Option Item) (O I G : Tree Item) (lines : leaves G ≡ instead items a by (leaves O)) (m : Memᴰ a (leaves O)) where
  pub left_row : (side : Bool) → Ordered items (leaves (node_on side O I)) → leaves (node_on side G I) ≡ instead items a by (leaves (node_on side O I))
  left_row false o =
      ap (λ l. l ++ leaves I) lines
      ∙ sym
      (instead_append items a by (leaves O) (leaves I)
      ∙ ap (λ l. instead items a by (leaves O) ++ l)
      (instead_all items a by (leaves I) (λ x i. or_left (items.before a x) (items.before x a) (ordered_apart items (leaves O) (leaves I) o a x m i))))
  left_row true o =
      ap (λ l. leaves I ++ l) lines
      ∙ sym
      (instead_append items a by (leaves I) (leaves O)
      ∙ ap (λ l. l ++ instead items a by (leaves O))
      (instead_all items a by (leaves I) (λ x i. or_right (items.before a x) (items.before x a) (ordered_apart items (leaves I) (leaves O) o x a i m))))

-- its slots are the stand-in's and some that were there
module _ (a : Item) (by : Option Item) {ls : List Item} (o : Ordered items ls) (m : Memᴰ a ls) where
  pub slots_instead : {c : ℕ} → Slots c (stand_in by ++ ls) → Slots c (instead items a by ls)
  slots_instead s =
      let (ms, p, d) = instead_rearranged items item_laws_lem a by o m in
      slots_rearranged p (slots_sublist (Sublistᴰ.append (Sublistᴰ.refl (stand_in by)) d) s)

  pub inside_instead : Inside (instead items a by ls) (stand_in by ++ ls)
  inside_instead n (at i e) =
      let (ms, p, d) = instead_rearranged items item_laws_lem a by o m in
      at (sublist_mem (Sublistᴰ.append (Sublistᴰ.refl (stand_in by)) d) (rearranged_mem p i)) e
