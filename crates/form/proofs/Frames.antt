-- Theorems on specs/Frames.
use Rattle.std.specs.Prelude.{◌≡◌, refl, ◌≢◌, Bool, true, false, ℕ, ◌≤◌, ◌<◌, ℤ}
use Rattle.std.proofs.Common.{sym, ◌∙◌, ap, subst, arith}
use mathlib.Core.HLevel.{¬_prop}
use Rattle.std.proofs.Math.Option.{none, some}
use mathlib.Core.List.Permᴰ
use mathlib.Core.List.{List, ◌++◌, Permᴰ}
use Rattle.trees.specs.Tree.{Tree, leaves, last}
use Rattle.trees.specs.Leaves.{last_leaf}
use Rattle.trees.specs.Operations.{Part, part_leaves}
use Rattle.dynamic.specs.OfferTree.{OfferTree, single, fork, shape, Held, held_shape}
use Rattle.dynamic.specs.Rearranged.{stored, rearranged, rearranged_mem}
use Rattle.table.specs.Fields.{base_field, bridge_left_field, bridge_right_field, denominator_field, inner_rest_field, leaf_rest_field, most_nodes}
use Rattle.table.specs.Fields.{next_piece_field, number_field, numerator_field, offer_tree, piece_tree, rate_field}
use Rattle.table.specs.Words.{Words, up_to}
use Rattle.table.specs.Layout.{cap, cell, cset, link_at}
use Rattle.table.proofs.LayoutLaws.{cset_other}
use Rattle.table.specs.Items.{Item, In, at, in_left, in_right, Slots, slots_left, slots_across}
use Rattle.table.specs.Rep.{child_field, height_field, Field, a_child, a_height, Tied, tied_leaf, tied_node, Within, within_cap, Only}
use Rattle.table.specs.Threads.{Holds, Threaded, holds_left, holds_still, threaded_still, leads_in}
use Rattle.pieces.specs.Pieces.{items, PartIn, PieceField, of_node, of_numerator, of_denominator, of_next, PiecesOnly, Standing}
use Rattle.form.specs.Stored.{RestIn, Stored, stored_single, stored_fork, HeldIn, EnvelopeField, of_pieces, of_offers, of_bridge_u, of_bridge_v}
use Rattle.form.specs.Stored.{of_inner_rest, of_leaf_rest, Touched}
use Rattle.form.specs.Frames.{Disjoint, RestField, disjoint_inside, holds_same, part_same, slots_within, stored_inside, stored_same, tied_same, touched_else, touched_offers, whole_inside}

-- ---- the same of whole subtrees
module _ {w w' : Words} (within : Within w w') where
  pub held_still : {x e : ℕ} {h : Held Item} {ys : List Item} → HeldIn w x e h → Touched ys w w' → Disjoint (leaves (held_shape h)) ys → HeldIn w' x e h
  held_still {h} {ys} held g d =
      record {
        root = held.root;
        envelope = held.envelope;
        slots = (slots_within within) held.slots;
        kept = holds_same held.kept (touched_offers g (leaves (held_shape h)));
        tied = tied_same held.tied (touched_else g (Field offer_tree) d);
        stored = stored_same held.stored (touched_else g RestField d) (touched_else g PieceField (disjoint_inside (stored_inside held) d));
        pieces = part_same h.whole held.pieces (touched_else g PieceField (disjoint_inside (whole_inside held) d));
        right = held.right;
      }
