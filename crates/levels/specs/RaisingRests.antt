-- The bridges and rests that a subtree's words tell, field by field. What stays with its own root is not among them, nor is the field of a bridge in
-- the slot of its last leaf: so a node that is put above it, with its bridge and its rests, leaves the subtree as it is stored.
use Rattle.std.specs.Prelude.{◌≡◌, refl, ◌≢◌, List, ◌++◌, ℕ, ◌-◌, ◌≤◌, ◌<◌, pos}
use Rattle.std.proofs.Common.{sym, ◌∙◌, ap, subst, arith}
use mathlib.Core.List.Memᴰ
use Rattle.std.proofs.Math.Decide.{dec_le}
use Rattle.trees.specs.Tree.{leaves, last}
use Rattle.trees.specs.Leaves.{last_leaf}
use Rattle.trees.specs.Operations.{Part, part_leaves}
use Rattle.dynamic.specs.OfferTree.{OfferTree, single, fork, shape}
use Rattle.dynamic.specs.Rearranged.{stored}
use Rattle.table.specs.Fields.{bridge_left_field, bridge_right_field, inner_rest_field, leaf_rest_field, most_nodes, most_slots}
use Rattle.table.specs.Words.{Words, up_to}
use Rattle.table.specs.Layout.{cap, cap_most, cell, cset}
use Rattle.table.specs.Items.{Item, In, at, in_left, in_right, Slots, slots_left, slots_across}
use Rattle.table.specs.Rep.{ref_of, Within, within_cset, Inner, of_root, of_left, of_right, inner_last}
use Rattle.pieces.specs.Pieces.{PieceField}
use Rattle.form.specs.Stored.{node_slot, rest_field, Stored, stored_single, stored_fork}
use Rattle.form.specs.Frames.{RestField, bridge_u, bridge_v, inner_rest, leaf_rest, Same, same_inside, part_same}

-- ---- the fields

-- field f of slot s is an end of a bridge of t, or tells what stays with a node below t's root
pub data Tells (f s : ℕ) : OfferTree Item → Type 0 where
  tells_u : {u v : Item} {l r : OfferTree Item} {ql qr : Part Item} → f ≡ bridge_left_field → s ≡ (last (shape l)).slot → Tells f s (fork u v l ql qr r)
  tells_v : {u v : Item} {l r : OfferTree Item} {ql qr : Part Item} → f ≡ bridge_right_field → s ≡ (last (shape l)).slot → Tells f s (fork u v l ql qr r)
  rest_left : {u v : Item} {l r : OfferTree Item} {ql qr : Part Item} → f ≡ rest_field l → s ≡ node_slot l → Tells f s (fork u v l ql qr r)
  rest_right : {u v : Item} {l r : OfferTree Item} {ql qr : Part Item} → f ≡ rest_field r → s ≡ node_slot r → Tells f s (fork u v l ql qr r)
  below_left : {u v : Item} {l r : OfferTree Item} {ql qr : Part Item} → Tells f s l → Tells f s (fork u v l ql qr r)
  below_right : {u v : Item} {l r : OfferTree Item} {ql qr : Part Item} → Tells f s r → Tells f s (fork u v l ql qr r)

pub rest_field_lem : {f : ℕ} (t : OfferTree Item) → f ≡ rest_field t → RestField f
rest_field_lem (single a) e = leaf_rest e
rest_field_lem (fork u v l ql qr r) e = inner_rest e

pub node_in : {s : ℕ} (t : OfferTree Item) → s ≡ node_slot t → In s (leaves (shape t))
node_in (single a) e = at (Memᴰ.head refl) e
node_in (fork u v l ql qr r) e = in_left (leaves (shape r)) (at (last_leaf (shape l)) e)

node_inner : {f s : ℕ} (t : OfferTree Item) → f ≡ rest_field t → f ≢ leaf_rest_field → s ≡ node_slot t → Inner s (shape t)
node_inner (single a) e d h = absurd (d e)
node_inner (fork u v l ql qr r) e d h = of_root h

pub tells_field : {f s : ℕ} {t : OfferTree Item} → Tells f s t → RestField f
tells_field (tells_u e h) = bridge_u e
tells_field (tells_v e h) = bridge_v e
tells_field (rest_left {l} e h) = rest_field_lem l e
tells_field (rest_right {r} e h) = rest_field_lem r e
tells_field (below_left i) = tells_field i
tells_field (below_right i) = tells_field i

pub tells_in : {f s : ℕ} {t : OfferTree Item} → Tells f s t → In s (leaves (shape t))
tells_in (tells_u {l} {r} e h) = in_left (leaves (shape r)) (at (last_leaf (shape l)) h)
tells_in (tells_v {l} {r} e h) = in_left (leaves (shape r)) (at (last_leaf (shape l)) h)
tells_in (rest_left {l} {r} e h) = in_left (leaves (shape r)) (node_in l h)
tells_in (rest_right {l} {r} e h) = in_right (leaves (shape l)) (node_in r h)
tells_in (below_left {l} {r} i) = in_left (leaves (shape r)) (tells_in i)
tells_in (below_right {l} {r} i) = in_right (leaves (shape l)) (tells_in i)

-- but for the leaves' rests, in slots of inner nodes
tells_inner : {f s : ℕ} {t : OfferTree Item} → Tells f s t → f ≢ leaf_rest_field → Inner s (shape t)
tells_inner (tells_u e h) d = of_root h
tells_inner (tells_v e h) d = of_root h
tells_inner (rest_left {l} e h) d = of_left (node_inner l e d h)
tells_inner (rest_right {r} e h) d = of_right (node_inner r e d h)
tells_inner (below_left i) d = of_left (tells_inner i d)
tells_inner (below_right i) d = of_right (tells_inner i d)

-- so not in the slot of the last leaf
pub tells_last : {c f s : ℕ} {t : OfferTree Item} → Slots c (leaves (shape t)) → Tells f s t → f ≢ leaf_rest_field → s ≢ (last (shape t)).slot
tells_last h i d = inner_last h (tells_inner i d)

-- what stays with the root of t is not told
pub tells_own : {c f s : ℕ} {t : OfferTree Item} → Slots c (leaves (shape t)) → Tells f s t → f ≡ rest_field t → s ≢ node_slot t
tells_own g (tells_u e h) d k = omega arith
tells_own g (tells_v e h) d k = omega arith
tells_own g (rest_left {l} {r} e h) d k = inner_last (slots_left (leaves (shape r)) g) (node_inner l e (λ z. omega arith) h) k
tells_own g (rest_right {l} {r} e h) d k = slots_across (leaves (shape l)) g (at (last_leaf (shape l)) k) (node_in r h)
tells_own g (below_left {l} {r} i) d k = tells_last (slots_left (leaves (shape r)) g) i (λ z. omega arith) k
tells_own g (below_right {l} {r} i) d k = slots_across (leaves (shape l)) g (at (last_leaf (shape l)) k) (tells_in i)

-- ---- words that say the same of them

pub record Retold (t : OfferTree Item) (w w' : Words) : Type 0 where
  pub cells : (f s : ℕ) → Tells f s t → cell w' f s ≡ cell w f s

module _ {w w' : Words} where
  pub stored_retold : {t : OfferTree Item} → Stored w t → Retold t w w' → Same PieceField (stored t) w w' → Stored w' t
  stored_retold stored_single g pieces = stored_single
  stored_retold (stored_fork {l} {r} {ql} {qr} sl sr eu ev rl rr) g pieces =
      stored_fork
      (stored_retold sl (record { cells = λ f s i. g.cells f s (below_left i) }) (same_inside (λ s i. in_left back (in_right (part_leaves ql) i)) pieces))
      (stored_retold sr (record { cells = λ f s i. g.cells f s (below_right i) }) (same_inside (λ s i. in_right front (in_right (part_leaves qr) i)) pieces))
      (ap (up_to most_nodes) (g.cells bridge_left_field _ (tells_u refl refl)) ∙ eu)
      (ap (up_to most_nodes) (g.cells bridge_right_field _ (tells_v refl refl)) ∙ ev)
      (record {
        root = g.cells _ _ (rest_left refl refl) ∙ rl.root;
        pieces =
            part_same ql rl.pieces (same_inside (λ s i. in_left back (in_left (stored l) i)) pieces);
      })
      (record {
        root = g.cells _ _ (rest_right refl refl) ∙ rr.root;
        pieces =
            part_same qr rr.pieces (same_inside (λ s i. in_right front (in_left (stored r) i)) pieces);
      })
    where
      front : List Item
      front = part_leaves ql ++ stored l

      back : List Item
      back = part_leaves qr ++ stored r

-- ---- a rest is written

-- what writing q as the part that stays with node x promises
pub record RestSet (x q : ℕ) (w w' : Words) : Type 0 where
  pub of_leaf : x ≤ most_slots → w' ≡ cset w leaf_rest_field x (pos q)
  pub of_inner : most_slots < x → w' ≡ cset w inner_rest_field (x - most_slots) (pos q)

pub rest_within : {x q : ℕ} {w w' : Words} → RestSet x q w w' → Within w w'
rest_within {x} {q} {w} {w'} h = go (dec_le x most_slots)
  where
    go : Dec (x ≤ most_slots) → Within w w'
    go (yes d) = subst (Within w) (sym (h.of_leaf d)) (within_cset w leaf_rest_field x (pos q))
    go (no d) = subst (Within w) (sym (h.of_inner (omega arith))) (within_cset w inner_rest_field (x - most_slots) (pos q))

pub rest_written : {x q : ℕ} {w w' : Words} (t : OfferTree Item) → Slots (cap w) (leaves (shape t)) → x ≡ ref_of (shape t) → RestSet x q w w' →
    w' ≡ cset w (rest_field t) (node_slot t) (pos q)
rest_written {x} {q} {w} (single a) s e h = h.of_leaf (omega (arith, s.high (Memᴰ.head refl), cap_most w)) ∙ ap (λ n. cset w leaf_rest_field n (pos q)) e
rest_written {x} {q} {w} (fork u v l ql qr r) s e h =
    h.of_inner (omega (arith, s.low (Memᴰ.append_left (leaves (shape r)) (last_leaf (shape l)))))
    ∙ ap (λ n. cset w inner_rest_field n (pos q)) (omega arith)
