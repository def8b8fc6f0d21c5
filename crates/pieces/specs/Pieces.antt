-- A piece tree in words: the nodes of a tree, and along its leaves the thread with the crossings. It may be empty. What putting two
-- together promises: on any words only fields of slots change; where the words hold the trees, the result is the model's.
use Rattle.std.specs.Prelude.{◌≡◌, List, ◌++◌, ℕ}
use Rattle.std.proofs.Math.Option.{none, some}
pub use Rattle.walks.specs.ItemLines.{rate_of, base_of, item_figure as items, item_laws as item_laws_lem}
use Rattle.trees.specs.Tree.{Tree, leaves, first, last}
use Rattle.trees.specs.Operations.{Part, part_leaves, join_p}
use Rattle.trees.specs.Balanced.{AvlP}
use Rattle.table.specs.Fields.{denominator_field, next_piece_field, numerator_field, piece_tree}
use Rattle.table.specs.Words.{Words}
use Rattle.table.specs.Layout.{cap, cell}
use Rattle.table.specs.Items.{Item, In, Slots}
use Rattle.table.specs.Rep.{Field, Tied, Within}
use Rattle.table.specs.PartTrees.{part_ref}
use Rattle.table.specs.Threads.{Holds, Threaded}

-- ---- piece trees that may be empty

-- its nodes, and the thread along its leaves
abbrev pub PartIn : Words → Part Item → Type 0
PartIn w none = Unit {0}
PartIn w (some t) = Tied w piece_tree t × Threaded w (leaves t)

-- ---- what a change of pieces leaves alone

-- nodes of the piece tree, the next piece and the crossing with it
pub data PieceField (f : ℕ) : Type 0 where
  of_node : Field piece_tree f → PieceField f
  of_numerator : f ≡ numerator_field → PieceField f
  of_denominator : f ≡ denominator_field → PieceField f
  of_next : f ≡ next_piece_field → PieceField f

-- of the fields, only those of pieces in slots of xs have changed
pub record PiecesOnly (xs : List Item) (w w' : Words) : Type 0 where
  pub cells : (f s : ℕ) → ¬ (PieceField f × In s xs) → cell w' f s ≡ cell w f s

-- ---- the promises

-- the words hold the piece tree p, with the data of its items
pub record Standing (w : Words) (x : ℕ) (p : Part Item) : Type 0 where
  pub root : x ≡ part_ref p
  pub slots : Slots (cap w) (part_leaves p)
  pub holds : Holds w (part_leaves p)
  pub balanced : AvlP p
  pub pieces : PartIn w p

-- two of them side by side, sharing no slot
pub record Beside (w : Words) (l r : ℕ) (p q : Part Item) : Type 0 where
  pub left : Standing w l p
  pub right : Standing w r q
  pub slots : Slots (cap w) (part_leaves p ++ part_leaves q)

-- put together, with the crossing at the seam
pub record Catted (l r : ℕ) (w w' : Words) (x : ℕ) : Type 0 where
  pub within : Within w w'
  pub root : (p q : Part Item) → Beside w l r p q → Standing w' x (join_p p q)
  pub only : (p q : Part Item) → Beside w l r p q → PiecesOnly (part_leaves p ++ part_leaves q) w w'

-- s is the slot of the last piece of p, n that of the first of q; nothing is said of an empty one
abbrev pub EndsAt : ℕ → Part Item → Type 0
EndsAt s p = (t : Tree Item) → p ≡ some t → s ≡ (last t).slot

abbrev pub BeginsAt : ℕ → Part Item → Type 0
BeginsAt n q = (t : Tree Item) → q ≡ some t → n ≡ (first t).slot

pub record SeamAt (s n : ℕ) (p q : Part Item) : Type 0 where
  pub left_end : EndsAt s p
  pub right_end : BeginsAt n q

-- put together by one who knows the seam
pub record Seamed (l r s n : ℕ) (w w' : Words) (x : ℕ) : Type 0 where
  pub within : Within w w'
  pub root : (p q : Part Item) → Beside w l r p q → SeamAt s n p q → Standing w' x (join_p p q)
  pub only : (p q : Part Item) → Beside w l r p q → SeamAt s n p q → PiecesOnly (part_leaves p ++ part_leaves q) w w'

-- put together by one who knows the last piece on the left
pub record CattedAfter (l r s : ℕ) (w w' : Words) (x : ℕ) : Type 0 where
  pub within : Within w w'
  pub root : (p q : Part Item) → Beside w l r p q → EndsAt s p → Standing w' x (join_p p q)
  pub only : (p q : Part Item) → Beside w l r p q → EndsAt s p → PiecesOnly (part_leaves p ++ part_leaves q) w w'

-- by one who knows the first piece on the right
pub record CattedBefore (l r n : ℕ) (w w' : Words) (x : ℕ) : Type 0 where
  pub within : Within w w'
  pub root : (p q : Part Item) → Beside w l r p q → BeginsAt n q → Standing w' x (join_p p q)
  pub only : (p q : Part Item) → Beside w l r p q → BeginsAt n q → PiecesOnly (part_leaves p ++ part_leaves q) w w'
