-- What cutting a piece tree by rate promises: on any words only fields of slots change; where the words hold the tree, the results are the model's.
use Rattle.std.specs.Prelude.{◌≡◌, Bool, true, false, ℕ, ℤ, T}
use mathlib.Core.List.{Memᴰ}
use Rattle.std.proofs.Math.Option.{some}
use Rattle.std.specs.Int.Signed.{le_z, lt_z}
use Rattle.trees.specs.Tree.{Tree, leaves, first}
use Rattle.trees.specs.Operations.{Part, part_leaves, split_p}
use Rattle.table.specs.Fields.{rate_field}
use Rattle.table.specs.Words.{Words}
use Rattle.table.specs.Layout.{cell}
use Rattle.table.specs.Items.{Item}
use Rattle.table.specs.Rep.{Within}
use Rattle.pieces.specs.Pieces.{rate_of, PiecesOnly, Standing}

-- cut by rate: in front the pieces whose rate is at least that, or above it where the cut is strict
abbrev pub is_in_front : Bool → ℤ → Item → Bool
is_in_front false rate a = le_z rate (rate_of a)
is_in_front true rate a = lt_z rate (rate_of a)

pub record CutAt (strict : Bool) (rate : ℤ) (x : ℕ) (w w' : Words) (front back : ℕ) : Type 0 where
  pub within : Within w w'
  pub in_front : (p : Part Item) → Standing w x p → Standing w' front (split_p (is_in_front strict rate) p).front
  pub behind : (p : Part Item) → Standing w x p → Standing w' back (split_p (is_in_front strict rate) p).back
  pub only : (p : Part Item) → Standing w x p → PiecesOnly (part_leaves p) w w'

-- ---- the same, by one who knows an end of the tree

-- a piece tree cut in two by a test
pub record Parted (test : Item → Bool) (p : Part Item) (w w' : Words) (front back : ℕ) : Type 0 where
  pub in_front : Standing w' front (split_p test p).front
  pub behind : Standing w' back (split_p test p).back
  pub only : PiecesOnly (part_leaves p) w w'

-- no piece has a rate below that in slot s
abbrev pub NoneBelow : Words → ℕ → Part Item → Type 0
NoneBelow w s p = (a : Item) → Memᴰ a (part_leaves p) → T (le_z (cell w rate_field s) (rate_of a))

-- no piece has a rate above the first one's
abbrev pub NoneAbove : Part Item → Type 0
NoneAbove p = (t : Tree Item) → p ≡ some t → (a : Item) → Memᴰ a (leaves t) → T (le_z (rate_of a) (rate_of (first t)))

-- cut behind the rate in slot u; no rate is below that in slot s
pub record CutBehind (u s x : ℕ) (w w' : Words) (front back : ℕ) : Type 0 where
  pub within : Within w w'
  pub parted : (p : Part Item) → Standing w x p → NoneBelow w s p → Parted (is_in_front false (cell w rate_field u)) p w w' front back

-- cut before the rate in slot v
pub record CutBefore (v x : ℕ) (w w' : Words) (front back : ℕ) : Type 0 where
  pub within : Within w w'
  pub parted : (p : Part Item) → Standing w x p → NoneAbove p → Parted (is_in_front true (cell w rate_field v)) p w w' front back
