-- Where the places of a search stand among the lines of their tree, counted from the outer end: a 0, a 1, ..
-- No geometry: this holds of every run.
use Rattle.std.specs.Prelude.{ℕ, zero, suc, ◌+◌, ◌≤◌, ◌<◌, ◌≡◌, refl, List, [], ◌∷◌, length}
use Rattle.std.proofs.Common.{arith, sym, ◌∙◌, ap}
use Rattle.std.proofs.Math.Option.{Option, none, some}
use Rattle.envelopes.specs.Bridge.{Kind, leafy, inner}
use Rattle.trees.specs.Tree.{Tree, leaf, node, height}
use Rattle.meeting.specs.Machine.{Side, left, right, away, toward, nearest, farthest, Place, Half, away_from, Crossing, end_of, point_at}

-- The subtree's lines are a lo, .., a (hi − 1), from its outer end.
pub data Spans {A : Type 0} (side : Side) (a : ℕ → A) : ℕ → Tree A → ℕ → Type 0 where
  one : {i : ℕ} {x : A} → x ≡ a i → Spans side a i (leaf x) (suc i)
  two : {lo mid hi : ℕ} {l r : Tree A} → Spans side a lo (away side l r) mid → Spans side a mid (toward side l r) hi → Spans side a lo (node l r) hi

-- The line before the line at a place.
abbrev pub edge_of : {A : Type 0} → (ℕ → A) → ℕ → Option A
edge_of a zero = none
edge_of a (suc i) = some (a i)

-- The away children of the stacked nodes are the lines before a lo, in order from the bottom; node k from the bottom is at least k edges below the root
-- of a tree of height H.
pub data Stacked {A : Type 0} (side : Side) (a : ℕ → A) (H : ℕ) : List (Place A) → ℕ → Type 0 where
  bottom : Stacked side a H [] zero
  on : {rest : List (Place A)} {lo mid hi : ℕ} {l r : Tree A} {e : Option A} → Stacked side a H rest lo → Spans side a lo (away side l r) mid →
      Spans side a mid (toward side l r) hi → e ≡ edge_of a lo → length rest + height (node l r) ≤ H →
      Stacked side a H (record { tree = node l r; edge = e } ∷ rest) mid

module _ {A : Type 0} where
  abbrev pub kind : Tree A → Kind
  kind (leaf x) = leafy
  kind (node l r) = inner

  pub height_away : (side : Side) (l r : Tree A) → height (away side l r) < height (node l r)
  height_away left l r = omega arith
  height_away right l r = omega arith

  pub height_toward : (side : Side) (l r : Tree A) → height (toward side l r) < height (node l r)
  height_toward left l r = omega arith
  height_toward right l r = omega arith

  nearest_node : (side : Side) (l r : Tree A) → nearest side (node l r) ≡ nearest side (toward side l r)
  nearest_node left l r = refl
  nearest_node right l r = refl

  farthest_node : (side : Side) (l r : Tree A) → farthest side (node l r) ≡ farthest side (away side l r)
  farthest_node left l r = refl
  farthest_node right l r = refl

  nearest_leaf : (side : Side) (x : A) → nearest side (leaf x) ≡ x
  nearest_leaf left x = refl
  nearest_leaf right x = refl

  farthest_leaf : (side : Side) (x : A) → farthest side (leaf x) ≡ x
  farthest_leaf left x = refl
  farthest_leaf right x = refl

module _ {A : Type 0} {side : Side} {a : ℕ → A} where
  -- how many lines stand on the outer side of the node's point
  abbrev pub rank : {lo hi : ℕ} {t : Tree A} → Spans side a lo t hi → ℕ
  rank (one {i = i} p) = i
  rank (two {mid = mid} s t) = mid

  pub spans_some : {lo hi : ℕ} {t : Tree A} → Spans side a lo t hi → lo < hi
  spans_some (one p) = omega arith
  spans_some (two s t) = omega (arith, spans_some s, spans_some t)

  pub rank_from : {lo hi : ℕ} {t : Tree A} (s : Spans side a lo t hi) → lo ≤ rank s
  rank_from (one p) = omega arith
  rank_from (two s t) = omega (arith, spans_some s)

  pub rank_before : {lo hi : ℕ} {t : Tree A} (s : Spans side a lo t hi) → rank s < hi
  rank_before (one p) = omega arith
  rank_before (two s t) = spans_some t

  -- the outermost line is the first
  pub farthest_at : {lo hi : ℕ} {t : Tree A} → Spans side a lo t hi → farthest side t ≡ a lo
  farthest_at (one {x = x} p) = farthest_leaf side x ∙ p
  farthest_at (two {l = l} {r = r} s t) = farthest_node side l r ∙ farthest_at s

  -- the innermost line is the last
  pub nearest_at : {lo hi : ℕ} {t : Tree A} → Spans side a lo t hi → (k : ℕ) × (hi ≡ suc k) × (nearest side t ≡ a k)
  nearest_at (one {i = i} {x = x} p) = (i, refl, nearest_leaf side x ∙ p)
  nearest_at (two {l = l} {r = r} s t) = let (k, e, p) = nearest_at t in (k, e, nearest_node side l r ∙ p)

  -- so it is the edge of what follows
  pub nearest_edge : {lo hi : ℕ} {t : Tree A} → Spans side a lo t hi → some (nearest side t) ≡ edge_of a hi
  nearest_edge s = let (k, e, p) = nearest_at s in rw e (ap some p)

-- A place that spans some of the lines, with the line before them.
pub record Located {A : Type 0} (side : Side) (a : ℕ → A) (p : Place A) : Type 0 where
  pub lo : ℕ
  pub hi : ℕ
  pub spans : Spans side a lo p.tree hi
  pub edged : p.edge ≡ edge_of a lo

-- The top of a stack: an inner node, whose point stands where the stacked lines end.
pub record Top {A : Type 0} (side : Side) (a : ℕ → A) (at : ℕ) (p : Place A) : Type 0 where
  pub place : Located side a p
  pub ranked : rank place.spans ≡ at
  pub is_inner : kind p.tree ≡ inner

pub top_located : {A : Type 0} {side : Side} {a : ℕ → A} {H lo : ℕ} {top : Place A} {rest : List (Place A)} → Stacked side a H (top ∷ rest) lo →
    Top side a lo top
top_located (on {lo = from} {hi = hi} st s t e b) = record { place = record { lo = from; hi = hi; spans = two s t; edged = e }; ranked = refl; is_inner = refl }

-- One side of a search: its lines from the outer end, how many they are, the place of the line that is looked for, and the tree's height.
pub record Aim (A : Type 0) : Type 0 where
  pub line : ℕ → A
  pub count : ℕ
  pub star : ℕ
  pub tall : ℕ

-- One side's half of a search stands well: its place spans some lines, the stack spans all before those, and the line looked for is not beyond.
pub record Stands {A : Type 0} (side : Side) (g : Aim A) (h : Half A) : Type 0 where
  pub lo : ℕ
  pub hi : ℕ
  pub stacked : Stacked side g.line g.tall h.stack lo
  pub spans : Spans side g.line lo h.at.tree hi
  pub edged : h.at.edge ≡ edge_of g.line lo
  pub shallow : length h.stack + height h.at.tree ≤ g.tall
  pub bounded : hi ≤ g.count
  pub covers : g.star < hi

abbrev pub located : {A : Type 0} {side : Side} {g : Aim A} {h : Half A} → Stands side g h → Located side g.line h.at
located s = record { lo = s.lo; hi = s.hi; spans = s.spans; edged = s.edged }

-- The stack never gets deeper than its tree is high.
pub stack_depth : {A : Type 0} {side : Side} {g : Aim A} {h : Half A} → Stands side g h → length h.stack ≤ g.tall
stack_depth s = omega arith

-- An inner node finds room on it.
pub stack_room : {A : Type 0} {side : Side} {g : Aim A} {h : Half A} (l r : Tree A) → Stands side g h → h.at.tree ≡ node l r → length h.stack < g.tall
stack_room l r s e = let b = rw e at s.shallow in omega arith

-- ---- the edge is the nearest line of the top's away child, and the end of a leaf's piece is the top's point

module _ {A : Type 0} where
  abbrev pub top_edge : Side → List (Place A) → Option A
  top_edge side [] = none
  top_edge side (top ∷ rest) = some (nearest side (away_from side top.tree top.edge).tree)

  edge_by : {side : Side} {a : ℕ → A} {H lo : ℕ} {stack : List (Place A)} → Stacked side a H stack lo → edge_of a lo ≡ top_edge side stack
  edge_by bottom = refl
  edge_by (on st s t e b) = sym (nearest_edge s)

  pub edge_of_top : {side : Side} {g : Aim A} {h : Half A} → Stands side g h → h.at.edge ≡ top_edge side h.stack
  edge_of_top s = s.edged ∙ edge_by s.stacked

  abbrev pub top_point : Side → List (Place A) → Option (Crossing A)
  top_point side [] = none
  top_point side (top ∷ rest) = point_at side top.tree top.edge

  edge_point : {side : Side} {a : ℕ → A} {H lo : ℕ} {stack : List (Place A)} → Stacked side a H stack lo → (x : A) → x ≡ a lo →
      end_of (edge_of a lo) x ≡ top_point side stack
  edge_point bottom x p = refl
  edge_point (on st s t e b) x p = let (k, q, w) = nearest_at s in rw q (λ i. some (record { outer = sym w i; inner = (p ∙ sym (farthest_at t)) i }))

  pub leaf_point : {side : Side} {g : Aim A} {h : Half A} (x : A) → Stands side g h → h.at.tree ≡ leaf x →
      point_at side (leaf x) h.at.edge ≡ top_point side h.stack
  leaf_point x s p = rw s.edged (edge_point s.stacked x (at_leaf (rw p at s.spans)))
    where
      at_leaf : {side : Side} {a : ℕ → A} {lo hi : ℕ} → Spans side a lo (leaf x) hi → x ≡ a lo
      at_leaf (one q) = q
