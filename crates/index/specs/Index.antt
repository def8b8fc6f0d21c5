-- What adding and dropping an item by a key promise, and what finding one tells, and the one that follows a key. On any words only fields of slots
-- change.
use Rattle.std.specs.Prelude.{◌≡◌, ◌≢◌, ◌⊎◌, ℕ, ◌≤◌, T, ℤ, pos}
use mathlib.Core.List.{List, ◌∷◌, Memᴰ}
use Rattle.std.proofs.Common.{arith}
use Rattle.std.specs.Int.Signed.{lt_z}
use Rattle.integers.specs.Parts.{int_rules, range_parts}
use Rattle.offers.specs.Sizes.{number_of_lem}
use Rattle.offers.specs.Ranks.{most_rank, rank_small}
use Rattle.trees.specs.Operations.{Part}
use Rattle.table.specs.Fields.{number_field, number_tree, order_tree, rank_field}
use Rattle.table.specs.Words.{Words}
use Rattle.table.specs.Layout.{cap}
use Rattle.table.specs.Items.{Item, Slots}
use Rattle.table.specs.Rep.{Within, Only}
use Rattle.table.specs.PartTrees.{part_ref}
use Rattle.table.specs.Keys.{Keyed}
use Rattle.table.specs.Threads.{Held, Holds}
use Rattle.form.specs.Form.{IndexIn, number_of, rank_of}
pub use Rattle.descents.specs.Afters.{NoneBelow, Follows}

-- ---- an index: a tree of the live items by a key, which a field of their slots holds

-- no tree's nodes are in that field, and a word holds one more than a key
pub record Index (tree field : ℕ) (key : Item → ℤ) : Type 0 where
  pub kind : tree ≤ order_tree
  pub low : field ≤ rank_field
  pub small : {w : Words} {a : Item} → Held w a → T (lt_z (key a) (pos most_rank))

pub by_number : Index number_tree number_field number_of
by_number =
    record {
      kind = omega arith;
      low = omega arith;
      small = λ {w} {a} h. let k = range_parts (pos 1) (number_of a) (pos 9_999) (number_of_lem a.offer h.ranged) in omega (arith, int_rules);
    }

pub by_rank : Index order_tree rank_field rank_of
by_rank = record { kind = omega arith; low = omega arith; small = λ {w} {a} h. rank_small a.offer h.ranged }

-- it stands in the words, with that root
pub record IndexAt (w : Words) (tree field : ℕ) (key : Item → ℤ) (root : ℕ) (live : List Item) (p : Part Item) : Type 0 where
  pub index : Index tree field key
  pub root_is : root ≡ part_ref p
  pub slots : Slots (cap w) live
  pub holds : Holds w live
  pub keyed : Keyed w field key live
  pub index_in : IndexIn w tree key live p

-- ---- what is told and promised

-- the slot of the live item with that key, and 0 where there is none
pub record FoundKey (tree field : ℕ) (sought : ℤ) (root : ℕ) (w : Words) (s : ℕ) : Type 0 where
  pub found : (key : Item → ℤ) (live : List Item) (p : Part Item) → IndexAt w tree field key root live p → (a : Item) → Memᴰ a live →
      key a ≡ sought → s ≡ a.slot
  pub missing : (key : Item → ℤ) (live : List Item) (p : Part Item) → IndexAt w tree field key root live p →
      ((a : Item) → Memᴰ a live → key a ≢ sought) → s ≡ 0

-- the slot of the item whose key is the greatest below that one, and 0 where none is below
abbrev pub NextAmong : List Item → (Item → ℤ) → ℤ → ℕ → Type 0
NextAmong live key sought s = ((b : Item) × (s ≡ b.slot) × Follows key sought live b) ⊎ ((s ≡ 0) × NoneBelow key sought live)

pub record Next (tree field : ℕ) (sought : ℤ) (root : ℕ) (w : Words) (s : ℕ) : Type 0 where
  pub told : (key : Item → ℤ) (live : List Item) (p : Part Item) → IndexAt w tree field key root live p → NextAmong live key sought s

-- an item that joins: it has a slot of its own, which holds its offer, and a key that is new
pub record Comes (w : Words) (field s : ℕ) (key : Item → ℤ) (a : Item) (live : List Item) : Type 0 where
  pub slot : s ≡ a.slot
  pub slots : Slots (cap w) (a ∷ live)
  pub holds : Holds w (a ∷ live)
  pub keyed : Keyed w field key (a ∷ live)
  pub new : (b : Item) → Memᴰ b live → key b ≢ key a

pub record Added (tree field s root : ℕ) (w w' : Words) (root' : ℕ) : Type 0 where
  pub within : Within w w'
  pub made : (key : Item → ℤ) (a : Item) (live : List Item) (p : Part Item) → IndexAt w tree field key root live p → Comes w field s key a live →
      (q : Part Item) × IndexAt w' tree field key root' (a ∷ live) q
  pub only : (key : Item → ℤ) (a : Item) (live : List Item) (p : Part Item) → IndexAt w tree field key root live p → Comes w field s key a live →
      Only tree (a ∷ live) w w'

-- the item with that key, which leaves, and the others
pub record Goes (w : Words) (key : Item → ℤ) (sought : ℤ) (a : Item) (live rest : List Item) : Type 0 where
  pub member : Memᴰ a live
  pub keyed : key a ≡ sought
  pub within : (b : Item) → Memᴰ b rest → Memᴰ b live
  pub other : (b : Item) → Memᴰ b rest → b ≢ a
  pub kept : (b : Item) → Memᴰ b live → b ≢ a → Memᴰ b rest
  pub slots : Slots (cap w) rest

-- where none has the key, only the frame is told
pub record Dropped (tree field : ℕ) (sought : ℤ) (root : ℕ) (w w' : Words) (root' : ℕ) : Type 0 where
  pub within : Within w w'
  pub made : (key : Item → ℤ) (a : Item) (live rest : List Item) (p : Part Item) → IndexAt w tree field key root live p →
      Goes w key sought a live rest → (q : Part Item) × IndexAt w' tree field key root' rest q
  pub only : (key : Item → ℤ) (live : List Item) (p : Part Item) → IndexAt w tree field key root live p → Only tree live w w'
