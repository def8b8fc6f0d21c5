-- The tree of offers in words: its nodes as any tree's; with each inner node its bridge; with each child the piece tree that stays with it.
use Rattle.std.specs.Prelude.{◌≡◌, List, ℕ, pos}
use Rattle.trees.specs.Tree.{leaves, last}
use Rattle.trees.specs.Operations.{Part}
use Rattle.dynamic.specs.OfferTree.{OfferTree, single, fork, shape, Held, held_shape}
use Rattle.dynamic.specs.Valid.{Whole}
use Rattle.table.specs.Fields.{bridge_left_field, bridge_right_field, inner_rest_field, leaf_rest_field, offer_tree}
use Rattle.table.specs.Words.{Words}
use Rattle.table.specs.Layout.{cap, cell, link_at}
use Rattle.table.specs.Items.{Item, In, Slots}
use Rattle.table.specs.Rep.{Field, ref_of, Tied}
use Rattle.table.specs.Threads.{Holds}
use Rattle.table.specs.PartTrees.{part_ref}
use Rattle.pieces.specs.Pieces.{items, PartIn, PieceField}

-- ---- what is stored with the tree of offers

-- the slot of a node, and the field there of the part that stays with it
abbrev pub node_slot : OfferTree Item → ℕ
node_slot (single a) = a.slot
node_slot (fork u v l ql qr r) = (last (shape l)).slot

abbrev pub rest_field : OfferTree Item → ℕ
rest_field (single a) = leaf_rest_field
rest_field (fork u v l ql qr r) = inner_rest_field

-- the part stays with the node: the word itself is the number of its root, so that it is 0 where the part is empty, and no other word that is read as 0
pub record RestIn (w : Words) (t : OfferTree Item) (q : Part Item) : Type 0 where
  pub root : cell w (rest_field t) (node_slot t) ≡ pos (part_ref q)
  pub pieces : PartIn w q

pub data Stored (w : Words) : OfferTree Item → Type 0 where
  stored_single : {a : Item} → Stored w (single a)
  stored_fork :
      {u v : Item} {l r : OfferTree Item} {ql qr : Part Item} →
      Stored w l →
      Stored w r →
      link_at w bridge_left_field (last (shape l)).slot ≡ u.slot →
      link_at w bridge_right_field (last (shape l)).slot ≡ v.slot →
      RestIn w l ql →
      RestIn w r qr →
      Stored w (fork u v l ql qr r)

-- node x of the tree of offers and node e of the pieces are a subtree with its whole envelope in hand
pub record HeldIn (w : Words) (x e : ℕ) (h : Held Item) : Type 0 where
  pub root : x ≡ ref_of (held_shape h)
  pub envelope : e ≡ part_ref h.whole
  pub slots : Slots (cap w) (leaves (held_shape h))
  pub kept : Holds w (leaves (held_shape h))
  pub tied : Tied w offer_tree (held_shape h)
  pub stored : Stored w h.tree
  pub pieces : PartIn w h.whole
  pub right : Whole items h

-- ---- what an update leaves alone

-- the fields that an update of envelopes changes: pieces, nodes of offers, bridges, rests
pub data EnvelopeField (f : ℕ) : Type 0 where
  of_pieces : PieceField f → EnvelopeField f
  of_offers : Field offer_tree f → EnvelopeField f
  of_bridge_u : f ≡ bridge_left_field → EnvelopeField f
  of_bridge_v : f ≡ bridge_right_field → EnvelopeField f
  of_inner_rest : f ≡ inner_rest_field → EnvelopeField f
  of_leaf_rest : f ≡ leaf_rest_field → EnvelopeField f

-- of the fields, only those of envelopes in slots of xs have changed
pub record Touched (xs : List Item) (w w' : Words) : Type 0 where
  pub cells : (f s : ℕ) → ¬ (EnvelopeField f × In s xs) → cell w' f s ≡ cell w f s
