-- What taking one level of the tree of offers apart and putting it together promise. On any words only fields of slots change; where the words
-- hold subtrees with their envelopes, the results are the model's, and only the envelopes' fields in their slots have changed. Counts go round at
-- 2 ^ 32, which no log of a book reaches.
use Rattle.std.specs.Prelude.{◌≡◌, List, ◌++◌, ℕ, ◌+◌, ◌^◌, ◌%◌, ◌<◌, length}
use Rattle.envelopes.specs.Envelope.{Ordered}
use Rattle.trees.specs.Tree.{node, leaves, last, Avl}
use Rattle.dynamic.specs.OfferTree.{Held, held_shape, Pair, Made, lower, raise}
use Rattle.dynamic.specs.Work.{steps_of, heights_of}
use Rattle.table.specs.Fields.{most_slots}
use Rattle.table.specs.Words.{Words}
use Rattle.table.specs.Layout.{cap}
use Rattle.table.specs.Items.{Item, Slots}
use Rattle.table.specs.Rep.{Within}
use Rattle.pieces.specs.Pieces.{items}
use Rattle.form.specs.Stored.{HeldIn, Touched}
use Rattle.levels.specs.declared.Held.{Held as InHand}
use Rattle.levels.specs.declared.Counts.{Counts}
use Rattle.levels.specs.declared.Made.{Made as Outcome}
use Rattle.levels.specs.declared.Lowered.{Lowered}

-- ---- what the code's values stand for

-- the words hold the subtree in hand
abbrev pub HandIn : Words → InHand → Held Item → Type 0
HandIn w x h = HeldIn w x.tree x.envelope h

-- a line alone: its slot is the root of its tree and of its envelope
abbrev pub line_at : ℕ → InHand
line_at s = record { tree = s; envelope = s }

-- searches, steps and heights, as counted
pub record Counted (log : List (Pair Item)) (n : Counts) : Type 0 where
  pub searches : n.searches ≡ length log % 2 ^ 32
  pub steps : n.steps ≡ steps_of items log % 2 ^ 32
  pub heights : n.heights ≡ heights_of log % 2 ^ 32

-- c is the sum of a and b, gone round
pub record Summed (a b c : Counts) : Type 0 where
  pub searches : c.searches ≡ (a.searches + b.searches) % 2 ^ 32
  pub steps : c.steps ≡ (a.steps + b.steps) % 2 ^ 32
  pub heights : c.heights ≡ (a.heights + b.heights) % 2 ^ 32

-- the words hold what was made, and count its log
pub record MadeIn (w : Words) (m : Outcome) (made : Made Item) : Type 0 where
  pub held : HandIn w m.held made.held
  pub counted : Counted made.log m.counts

-- ---- lower

pub record LoweredIn (x : InHand) (w w' : Words) (c : Lowered) : Type 0 where
  pub within : Within w w'
  pub front : (h : Held Item) → HandIn w x h → most_slots < x.tree → HandIn w' c.left (lower items h).front
  pub back : (h : Held Item) → HandIn w x h → most_slots < x.tree → HandIn w' c.right (lower items h).back
  pub touched : (h : Held Item) → HandIn w x h → most_slots < x.tree → Touched (leaves (held_shape h)) w w'

-- ---- raise

-- two subtrees side by side; `gap` is the slot of the seam
pub record Siblings (w : Words) (gap : ℕ) (x y : InHand) (l r : Held Item) : Type 0 where
  pub left : HandIn w x l
  pub right : HandIn w y r
  pub seam : gap ≡ (last (held_shape l)).slot
  pub slots : Slots (cap w) (leaves (held_shape l) ++ leaves (held_shape r))
  pub ordered : Ordered items (leaves (held_shape l) ++ leaves (held_shape r))

pub record RaisedIn (gap : ℕ) (x y : InHand) (w w' : Words) (m : Outcome) : Type 0 where
  pub within : Within w w'
  pub made : (l r : Held Item) → Siblings w gap x y l r → Avl (node (held_shape l) (held_shape r)) → MadeIn w' m (raise items l r)
  pub touched :
      (l r : Held Item) → Siblings w gap x y l r → Avl (node (held_shape l) (held_shape r)) →
      Touched (leaves (held_shape l) ++ leaves (held_shape r)) w w'
