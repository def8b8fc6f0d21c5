-- What the steps of an update above one level promise. On any words only fields of slots change; where the words hold subtrees with their envelopes,
-- the results are the model's, and only the envelopes' fields in their slots have changed.
use Rattle.std.specs.Prelude.{◌≡◌, ℕ, suc, ◌≤◌, [], ◌∷◌, ◌++◌}
use mathlib.Core.List.{Memᴰ}
use Rattle.std.proofs.Math.Option.{Option, none, some}
use Rattle.trees.specs.Tree.{height, leaves}
use Rattle.dynamic.specs.OfferTree.{Held, held_shape}
use Rattle.dynamic.specs.Updates.{rebalance, insert, remove}
use Rattle.dynamic.specs.Valid.{stand_in, Fits}
use Rattle.dynamic.specs.Placed.{New}
use Rattle.table.specs.Words.{Words}
use Rattle.table.specs.Layout.{cap}
use Rattle.table.specs.Items.{Item, Slots}
use Rattle.table.specs.Rep.{Within}
use Rattle.table.specs.Threads.{Holds}
use Rattle.pieces.specs.Pieces.{items}
use Rattle.form.specs.Stored.{Touched}
use Rattle.levels.specs.declared.Held.{Held as InHand}
use Rattle.levels.specs.declared.Made.{Made as Outcome}
use Rattle.levels.specs.Levels.{HandIn, line_at, Counted, MadeIn, Siblings}

-- ---- rebalance

-- heights differ by at most 2
pub record Near (l r : Held Item) : Type 0 where
  pub left : height (held_shape l) ≤ suc (suc (height (held_shape r)))
  pub right : height (held_shape r) ≤ suc (suc (height (held_shape l)))

pub record RebalancedIn (gap : ℕ) (x y : InHand) (w w' : Words) (m : Outcome) : Type 0 where
  pub within : Within w w'
  pub made : (l r : Held Item) → Siblings w gap x y l r → Near l r → MadeIn w' m (rebalance items l r)
  pub touched : (l r : Held Item) → Siblings w gap x y l r → Near l r → Touched (leaves (held_shape l) ++ leaves (held_shape r)) w w'

-- ---- insert and remove

-- the line in slot s alone, or at 0 nothing; nothing was searched
abbrev pub alone_at : ℕ → Outcome
alone_at s = record { held = line_at s; counts = record { searches = 0; steps = 0; heights = 0 } }

-- an item that is not yet in the subtree, kept in slot s
pub record Newcomer (w : Words) (s : ℕ) (x : InHand) (a : Item) (g : Held Item) : Type 0 where
  pub slot : s ≡ a.slot
  pub kept : Holds w (a ∷ [])
  pub slots : Slots (cap w) (a ∷ leaves (held_shape g))
  pub new : New items a (leaves (held_shape g))
  pub held : HandIn w x g

pub record InsertedIn (s : ℕ) (x : InHand) (w w' : Words) (m : Outcome) : Type 0 where
  pub within : Within w w'
  pub made : (a : Item) (g : Held Item) → Newcomer w s x a g → MadeIn w' m (insert items a g.tree g.whole)
  pub touched : (a : Item) (g : Held Item) → Newcomer w s x a g → Touched (a ∷ leaves (held_shape g)) w w'

-- the slot of a stand-in, 0 for none
abbrev pub slot_by : Option Item → ℕ
slot_by none = 0
slot_by (some b) = b.slot

-- an item of the subtree, kept in slot s, and its stand-in, kept in slot y
pub record Leaver (w : Words) (s y : ℕ) (x : InHand) (a : Item) (by : Option Item) (g : Held Item) : Type 0 where
  pub slot : s ≡ a.slot
  pub member : Memᴰ a (leaves (held_shape g))
  pub held : HandIn w x g
  pub by_slot : y ≡ slot_by by
  pub fits : Fits items a by
  pub kept : Holds w (stand_in by)
  pub slots : Slots (cap w) (stand_in by ++ leaves (held_shape g))

-- the words hold what is left; 0 and 0 where nothing is
abbrev pub LeftIn : Words → InHand → Option (Held Item) → Type 0
LeftIn w x none = (x.tree ≡ 0) × (x.envelope ≡ 0)
LeftIn w x (some g) = HandIn w x g

pub record RemovedIn (s y : ℕ) (x : InHand) (w w' : Words) (m : Outcome) : Type 0 where
  pub within : Within w w'
  pub rest : (a : Item) (by : Option Item) (g : Held Item) → Leaver w s y x a by g → LeftIn w' m.held (remove items a by g.tree g.whole).rest
  pub counted : (a : Item) (by : Option Item) (g : Held Item) → Leaver w s y x a by g → Counted (remove items a by g.tree g.whole).log m.counts
  pub touched : (a : Item) (by : Option Item) (g : Held Item) → Leaver w s y x a by g → Touched (stand_in by ++ leaves (held_shape g)) w w'
