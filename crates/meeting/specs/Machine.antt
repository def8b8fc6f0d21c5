-- The meeting of two envelopes: the search of docs/REQUIREMENTS.md, 6, line for line (its source [1], section 4).
-- Both sides are written once. Toward is the way to the other envelope: right in the left tree, left in the right tree. Away is the other way,
-- to the outer end. So "u goes right, v goes left" is toward for both.
use Rattle.std.specs.Prelude.{ℕ, zero, suc, ◌+◌, ◌*◌, Bool, true, false, ◌&&◌, ◌||◌, List, [], ◌∷◌}
use Rattle.std.proofs.Math.Option.{Option, none, some}
use Rattle.envelopes.specs.PseudoLines.{Figure}
use Rattle.trees.specs.Tree.{Tree, leaf, node, height, first, last}

pub data Side : Type 0 where
  left right : Side

abbrev pub opposite : Side → Side
opposite left = right
opposite right = left

-- ---- places in a tree

module _ {A : Type 0} where
  -- of a node's children, the one on the outer side and the one on the inner side
  abbrev pub away : Side → Tree A → Tree A → Tree A
  away left l r = l
  away right l r = r

  abbrev pub toward : Side → Tree A → Tree A → Tree A
  toward left l r = r
  toward right l r = l

  -- of a subtree's lines, the innermost and the outermost
  abbrev pub nearest : Side → Tree A → A
  nearest left t = last t
  nearest right t = first t

  abbrev pub farthest : Side → Tree A → A
  farthest left t = first t
  farthest right t = last t

  abbrev pub is_leaf : Tree A → Bool
  is_leaf (leaf a) = true
  is_leaf (node l r) = false

-- A node of a tree: its subtree, and the line that comes just before the subtree's lines, counted from the outer end. The first has none.
pub record Place (A : Type 0) : Type 0 where
  pub tree : Tree A
  pub edge : Option A

-- A point that two lines have in common.
pub record Crossing (A : Type 0) : Type 0 where
  pub outer : A
  pub inner : A

module _ {A : Type 0} where
  abbrev pub root : Tree A → Place A
  root t = record { tree = t; edge = none }

  -- p: at an inner node the crossing of the last line left of it and the first line right of it, at a leaf its piece's outer end
  abbrev pub end_of : Option A → A → Option (Crossing A)
  end_of none a = none
  end_of (some o) a = some (record { outer = o; inner = a })

  abbrev pub point_at : Side → Tree A → Option A → Option (Crossing A)
  point_at side (leaf a) e = end_of e a
  point_at side (node l r) e = some (record { outer = nearest side (away side l r); inner = farthest side (toward side l r) })

  -- the children's places; a leaf stays
  abbrev pub away_from : Side → Tree A → Option A → Place A
  away_from side (leaf a) e = record { tree = leaf a; edge = e }
  away_from side (node l r) e = record { tree = away side l r; edge = e }

  abbrev pub toward_from : Side → Tree A → Option A → Place A
  toward_from side (leaf a) e = record { tree = leaf a; edge = e }
  toward_from side (node l r) e = record { tree = toward side l r; edge = some (nearest side (away side l r)) }

-- ---- the comparison

module _ (S : Figure) where
  -- where the two lines cross: the one further left is the outer one on the left, the inner one on the right
  abbrev pub crossing_point : Side → Crossing S.Line → S.Point
  crossing_point left c = S.cross c.outer c.inner
  crossing_point right c = S.cross c.inner c.outer

  -- at the point, the local envelope is at most the line: at an inner node it is the lesser of two lines
  abbrev pub local_at_most : Tree S.Line → S.Line → S.Point → Bool
  local_at_most (leaf a) b x = S.at_most a b x
  local_at_most (node l r) b x = S.at_most (last l) b x || S.at_most (first r) b x

  -- the crossing is on or above the local envelope; a missing end lies below everything
  abbrev pub crossing_on_or_above : Side → Option (Crossing S.Line) → Tree S.Line → Bool
  crossing_on_or_above side none t = false
  crossing_on_or_above side (some c) t = local_at_most t c.outer (crossing_point side c)

  -- the first place's p is on or above the second place's local envelope
  unfoldable pub on_or_above : Side → Place S.Line → Place S.Line → Bool
  on_or_above side p q = crossing_on_or_above side (point_at side p.tree p.edge) q.tree

-- Which of two is on or above the other; where both are, the first counts.
pub data Case : Type 0 where
  mine theirs neither : Case

abbrev pub case_of : Bool → Bool → Case
case_of true b = mine
case_of false true = theirs
case_of false false = neither

unfoldable pub compare : (S : Figure) → Side → Place S.Line → Place S.Line → Case
compare S side p q = case_of (on_or_above S side p q) (on_or_above S (opposite side) q p)

-- ---- the moves

-- One side's half of the state: u or v, and its stack.
pub record Half (A : Type 0) : Type 0 where
  pub at : Place A
  pub stack : List (Place A)

pub record State (A : Type 0) : Type 0 where
  pub u : Half A
  pub v : Half A

module _ {A : Type 0} where
  -- the left half first, whichever side is ours
  abbrev pub pair : Side → Half A → Half A → State A
  pair left ours other = record { u = ours; v = other }
  pair right ours other = record { u = other; v = ours }

  -- an inner node is pushed and goes toward; a leaf stays
  abbrev pub pushed : Tree A → Option A → List (Place A) → List (Place A)
  pushed (leaf a) e stack = stack
  pushed (node l r) e stack = record { tree = node l r; edge = e } ∷ stack

  unfoldable pub advance : Side → Half A → Half A
  advance side h =
      record {
        at = toward_from side h.at.tree h.at.edge;
        stack = pushed h.at.tree h.at.edge h.stack;
      }

  -- an inner node goes away; a leaf stays
  unfoldable pub retreat : Side → Half A → Half A
  retreat side h = record { at = away_from side h.at.tree h.at.edge; stack = h.stack }

  -- the top is popped; on to the popped node's away child
  unfoldable pub pop : Side → Place A → List (Place A) → Half A
  pop side top rest = record { at = away_from side top.tree top.edge; stack = rest }

-- Case 1 on the left, and its mirror image, case 2, on the right: our point is on or above the other's local envelope.
module _ (S : Figure) (side : Side) where
  -- our node is inner and the stack has a top: the second comparison, of the top with the other's node
  abbrev pub second : Case → (ours other : Half S.Line) → Place S.Line → List (Place S.Line) → State S.Line
  second mine ours other top rest = pair side (pop side top rest) other
  second theirs ours other top rest = pair side (retreat side ours) (retreat (opposite side) other)
  second neither ours other top rest = pair side (retreat side ours) (advance (opposite side) other)

  abbrev pub recede_by : List (Place S.Line) → Tree S.Line → (ours other : Half S.Line) → State S.Line
  recede_by [] t ours other = pair side (retreat side ours) other
  recede_by (top ∷ rest) (leaf a) ours other = pair side (pop side top rest) other
  recede_by (top ∷ rest) (node l r) ours other = second (compare S side top other.at) ours other top rest

  unfoldable pub recede : (ours other : Half S.Line) → State S.Line
  recede ours other = recede_by ours.stack ours.at.tree ours other

-- ---- the search

module _ (S : Figure) where
  -- Case 3: finished where both are leaves, before any move.
  abbrev pub advance_unless : Bool → State S.Line → Option (State S.Line)
  advance_unless true s = none
  advance_unless false s = some (record { u = advance left s.u; v = advance right s.v })

  abbrev pub step_by : Case → State S.Line → Option (State S.Line)
  step_by mine s = some (recede S left s.u s.v)
  step_by theirs s = some (recede S right s.v s.u)
  step_by neither s = advance_unless (is_leaf s.u.at.tree && is_leaf s.v.at.tree) s

  -- One step; none where the search is finished.
  unfoldable pub step : State S.Line → Option (State S.Line)
  step s = step_by (compare S left s.u.at s.v.at) s

-- What a search returns: u, v and the steps, the last included. It is unfinished where the steps allowed did not suffice.
pub record Result (A : Type 0) : Type 0 where
  pub finished : Bool
  pub u : Place A
  pub v : Place A
  pub steps : ℕ

module _ {A : Type 0} where
  unfoldable pub ended : Bool → State A → ℕ → Result A
  ended f s k = record { finished = f; u = s.u.at; v = s.v.at; steps = k }

  unfoldable pub counted : Result A → Result A
  counted r = record { finished = r.finished; u = r.u; v = r.v; steps = suc r.steps }

  abbrev pub start : Tree A → Tree A → State A
  start l r = record { u = record { at = root l; stack = [] }; v = record { at = root r; stack = [] } }

module _ (S : Figure) where
  -- at most so many steps
  unfoldable pub run : ℕ → State S.Line → Result S.Line
  run zero s = ended false s zero
  run (suc n) s = elim (step S s) [ none ↦ ended true s 1 | some s' ↦ counted (run n s') ]

  unfoldable pub meet : Tree S.Line → Tree S.Line → Result S.Line
  meet l r = run (3 * (height l + height r) + 1) (start l r)
