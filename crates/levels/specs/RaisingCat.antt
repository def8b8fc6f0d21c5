-- Raise in words, third part: the kept parts of both envelopes are put together, and the words hold the fork with its whole envelope.
use Rattle.std.specs.Prelude.{◌≡◌, refl, ◌++◌, ℕ, pos}
use Rattle.std.proofs.Common.{◌∙◌, ap}
use Rattle.trees.specs.Tree.{leaves, last}
use Rattle.trees.specs.Leaves.{last_leaf}
use Rattle.trees.specs.Operations.{Part, Cut, part_leaves, join_p}
use Rattle.dynamic.specs.OfferTree.{OfferTree, shape, Held, held_shape, bridged}
use Rattle.dynamic.specs.Valid.{Whole}
use Rattle.dynamic.specs.Rearranged.{stored}
use Rattle.table.specs.Fields.{bridge_left_field, bridge_right_field}
use Rattle.table.specs.Words.{Words}
use Rattle.table.specs.Layout.{cell}
use Rattle.table.specs.Items.{Item, In, at}
use Rattle.table.specs.Rep.{Within, within_trans}
use Rattle.table.specs.Threads.{holds_join}
use Rattle.pieces.specs.Pieces.{items, PieceField, PiecesOnly, Standing, Beside, SeamAt, Seamed}
use Rattle.form.specs.Stored.{RestIn, Stored, stored_fork, HeldIn, Touched, node_slot, rest_field}
use Rattle.levels.specs.Levels.{Siblings}
use Rattle.levels.specs.declared.Held.{Held as InHand}
use Rattle.form.specs.Frames.{Inside, Disjoint, disjoint_across, bridge_u, bridge_v, same_link, tied_same, part_same, holds_same, held_slots}
use Rattle.form.specs.Frames.{whole_inside, stored_inside, pieces_tree, pieces_rests, pieces_else, pieces_touched, slots_within, touched_offers}
use Rattle.form.specs.Frames.{touched_trans, touched_more}
use Rattle.form.specs.Disjoint.{inside_refl, inside_trans, inside_left, inside_right, inside_join, disjoint_both, disjoint_join, disjoint_turned, slots_join}
use Rattle.levels.specs.RaisingRests.{Tells, tells_field, tells_in, rest_field_lem, node_in, Retold, stored_retold}
use Rattle.levels.specs.RaisingCuts.{Halved, halved_same, wholes_apart, AfterCuts}
use Rattle.levels.specs.RaisingWires.{Wires, left_untold, right_untold, wired_touched, wired_pieces, AfterWires}

-- ---- from the subtrees in hand to the subtree raised

-- the words before the first cut, after the second, after the bridge, and at the end
module _
    {w w₁ w₂ w₃ : Words} {gap lf lb rf rb z e mu mv : ℕ} {x y : InHand} {l r : Held Item} {c d : Cut Item} (sib : Siblings w gap x y l r)
    (cuts : AfterCuts w w₁ l r c d lf lb rf rb) (wires : AfterWires l.tree r.tree w₁ w₂ z lb rf mu mv) (seam : SeamAt mu mv c.front d.back)
    (cat : Seamed lf rb mu mv w₂ w₃ e) where
  -- no piece is written between
  left_halves : Halved w₂ lf lb l.whole c
  left_halves = halved_same wires.within cuts.left (touched_offers (wired_touched wires.only) _) (wired_pieces wires.only _)

  right_halves : Halved w₂ rf rb r.whole d
  right_halves = halved_same wires.within cuts.right (touched_offers (wired_touched wires.only) _) (wired_pieces wires.only _)

  across : Disjoint (part_leaves c.front) (part_leaves d.back)
  across = disjoint_both left_halves.front_inside right_halves.back_inside (wholes_apart sib)

  beside : Beside w₂ lf rb c.front d.back
  beside = record { left = left_halves.front; right = right_halves.back; slots = slots_join left_halves.front.slots right_halves.back.slots across }

  -- the last change
  kept : PiecesOnly (part_leaves c.front ++ part_leaves d.back) w₂ w₃
  kept = cat.only c.front d.back beside seam

  within : Within w w₃
  within = within_trans cuts.within (within_trans wires.within cat.within)

  -- both wholes, and what is kept of them, are in slots of leaves
  wholes_inside : Inside (part_leaves l.whole ++ part_leaves r.whole) (leaves (held_shape l) ++ leaves (held_shape r))
  wholes_inside =
      inside_join (part_leaves l.whole) (inside_trans (whole_inside sib.left) (inside_left (leaves (held_shape r))))
      (inside_trans (whole_inside sib.right) (inside_right (leaves (held_shape l))))

  kept_inside : Inside (part_leaves c.front ++ part_leaves d.back) (part_leaves l.whole ++ part_leaves r.whole)
  kept_inside =
      inside_join (part_leaves c.front) (inside_trans left_halves.front_inside (inside_left (part_leaves r.whole)))
      (inside_trans right_halves.back_inside (inside_right (part_leaves l.whole)))

  pub touched : Touched (leaves (held_shape l) ++ leaves (held_shape r)) w w₃
  touched =
      touched_trans (touched_more wholes_inside (pieces_touched cuts.only))
      (touched_trans (wired_touched wires.only) (touched_more (inside_trans kept_inside wholes_inside) (pieces_touched kept)))

  -- ---- a child t of the two, its stored parts apart from both wholes

  module _ {t : OfferTree Item} (untold : (f s : ℕ) → Tells f s t → Wires l.tree r.tree f s → ⊥) where
    retold : Retold t w w₃
    retold =
        record {
          cells = λ f s i.
              (pieces_rests kept (leaves (shape t))).cells f s (tells_field i) (tells_in i)
              ∙ wires.only.cells f s (untold f s i)
              ∙ (pieces_rests cuts.only (leaves (shape t))).cells f s (tells_field i) (tells_in i);
        }

    still_stored : Stored w t → Disjoint (stored t) (part_leaves l.whole ++ part_leaves r.whole) → Stored w₃ t
    still_stored st apart =
        stored_retold st retold
        (record {
          cells = λ f s p i.
              (pieces_else kept PieceField (disjoint_both (inside_refl _) kept_inside apart)).cells f s p i
              ∙ (wired_pieces wires.only (stored t)).cells f s p i
              ∙ (pieces_else cuts.only PieceField apart).cells f s p i;
        })

  -- a part of a whole that is not kept
  rest_stored : {n : ℕ} {q : Part Item} (t : OfferTree Item) → cell w₂ (rest_field t) (node_slot t) ≡ pos n → Standing w₂ n q →
      Disjoint (part_leaves q) (part_leaves c.front ++ part_leaves d.back) → RestIn w₃ t q
  rest_stored {q} t at_node st apart =
      record {
        root = (pieces_rests kept (leaves (shape t))).cells _ _ (rest_field_lem t refl) (node_in t refl) ∙ at_node ∙ ap pos st.root;
        pieces = part_same q st.pieces (pieces_else kept PieceField apart);
      }

  -- ---- the fork

  whole_raised : Standing w₃ e (join_p c.front d.back)
  whole_raised = cat.root c.front d.back beside seam

  front_apart : Disjoint (part_leaves c.back) (part_leaves c.front ++ part_leaves d.back)
  front_apart = disjoint_turned (disjoint_join (part_leaves c.front) left_halves.apart
      (disjoint_turned (disjoint_both left_halves.back_inside right_halves.back_inside (wholes_apart sib))))

  back_apart : Disjoint (part_leaves d.front) (part_leaves c.front ++ part_leaves d.back)
  back_apart = disjoint_turned (disjoint_join (part_leaves c.front) (disjoint_both left_halves.front_inside right_halves.front_inside
      (wholes_apart sib)) (disjoint_turned right_halves.apart))

  sides : Disjoint (leaves (held_shape l)) (leaves (held_shape r))
  sides = disjoint_across (leaves (held_shape l)) sib.slots

  left_apart : Disjoint (stored l.tree) (part_leaves l.whole ++ part_leaves r.whole)
  left_apart =
      disjoint_turned
      (disjoint_join (part_leaves l.whole) (disjoint_across (part_leaves l.whole) (held_slots sib.left))
      (disjoint_both (whole_inside sib.right) (stored_inside sib.left) (disjoint_turned sides)))

  right_apart : Disjoint (stored r.tree) (part_leaves l.whole ++ part_leaves r.whole)
  right_apart =
      disjoint_turned
      (disjoint_join (part_leaves l.whole) (disjoint_both (whole_inside sib.left) (stored_inside sib.right) sides)
      (disjoint_across (part_leaves r.whole) (held_slots sib.right)))

  pub held_raised : {u v : Item} → mu ≡ u.slot → mv ≡ v.slot → Whole items (bridged items u v l r c d) → HeldIn w₃ z e (bridged items u v l r c d)
  held_raised eu ev right =
      record {
        root = wires.root;
        envelope = whole_raised.root;
        slots = slots_within within sib.slots;
        kept = holds_same (holds_join sib.left.kept sib.right.kept) (touched_offers touched _);
        tied = tied_same wires.tied (pieces_tree kept _);
        stored =
            stored_fork
            (still_stored (λ f s i. left_untold sib.slots i) sib.left.stored left_apart)
            (still_stored (λ f s i. right_untold sib.slots i) sib.right.stored right_apart)
            (same_link bridge_left_field (pieces_rests kept (leaves (held_shape l))) (bridge_u refl) last_in ∙ wires.left_end ∙ eu)
            (same_link bridge_right_field (pieces_rests kept (leaves (held_shape l))) (bridge_v refl) last_in ∙ wires.right_end ∙ ev)
            (rest_stored l.tree wires.left_rest left_halves.back front_apart)
            (rest_stored r.tree wires.right_rest right_halves.front back_apart);
        pieces = whole_raised.pieces;
        right = right;
      }
    where
      last_in : In (last (held_shape l)).slot (leaves (held_shape l))
      last_in = at (last_leaf (held_shape l)) refl
