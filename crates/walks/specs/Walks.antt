-- What one walk of the code stands for: a half of the machine's state. Its moves are the machine's, and so is its point.
use Rattle.std.specs.Prelude.{ℕ, suc, ◌-◌, ◌≤◌, ◌<◌, ◌≡◌, refl, Bool, List, [], ◌∷◌, length, get_or, set}
use Rattle.std.proofs.Common.{arith, sym, ◌∙◌, ap, subst, get_or-set_same, get_or-set_other}
use Rattle.std.proofs.Math.Option.{Option}
use Rattle.trees.specs.Tree.{Tree, leaf, node, last}
use Rattle.meeting.specs.Machine.{Side, Place, Half, Crossing, crossing_on_or_above, on_or_above}
use Rattle.meeting.specs.Located.{Aim, Stands, leaf_point}
use Rattle.meeting.specs.Moves.{half}
use Rattle.table.specs.Fields.{most_levels, most_slots}
use Rattle.table.specs.Words.{Words}
use Rattle.table.specs.Items.{Item}
use Rattle.table.specs.Rep.{ref_of}
use Rattle.walks.specs.ItemLines.{item_figure, point_above}
use Rattle.prices.specs.Prices.{above_at, above_missing}
use Rattle.walks.specs.SearchedPieces.{Pieces, side_of, seam_of, seam_above}

-- ---- the relation

-- one side of a search: the node where it stands, and the nodes that it turned inward at
pub record Walk : Type 0 where
  pub at : ℕ
  pub stack : List ℕ
  pub depth : ℕ

-- the first d words of the stack are the nodes pushed, the top last
pub data Stacks (w : Words) (st : List ℕ) : ℕ → List (Place Item) → Type 0 where
  empty : Stacks w st 0 []
  pushed : {d : ℕ} {l r : Tree Item} {e : Option Item} {rest : List (Place Item)} → Pieces w (get_or st d 0) (node l r) → Stacks w st d rest →
      Stacks w st (suc d) (record { tree = node l r; edge = e } ∷ rest)

pub record Stood (w : Words) (h : Walk) (m : Half Item) : Type 0 where
  pub here : Pieces w h.at m.at.tree
  pub stacks : Stacks w h.stack h.depth m.stack
  pub room : length h.stack ≡ most_levels

-- a walk that stands for a half which stands well, of a tree at most most_levels high
pub record Fares (w : Words) (side : Bool) (h : Walk) (m : Half Item) : Type 0 where
  pub aim : Aim Item
  pub low : aim.tall ≤ most_levels
  pub stands : Stands (side_of side) aim m
  pub stood : Stood w h m

-- ---- stacks

pub stacks_depth : {w : Words} {st : List ℕ} {d : ℕ} {ps : List (Place Item)} → Stacks w st d ps → d ≡ length ps
stacks_depth empty = refl
stacks_depth (pushed p s) = ap suc (stacks_depth s)

-- a word at or above the depth is free
pub stacks_set : {w : Words} {st : List ℕ} {d : ℕ} {ps : List (Place Item)} (k x : ℕ) → d ≤ k → Stacks w st d ps → Stacks w (set st k x) d ps
stacks_set k x h empty = empty
stacks_set {w} {st} k x h (pushed {d = d} {l} {r} p s) =
    pushed (subst (λ (z : ℕ). Pieces w z (node l r)) (sym (get_or-set_other st k d x 0 (λ e. omega arith))) p) (stacks_set k x (omega arith) s)

pub stacks_push : {w : Words} {st : List ℕ} {d x : ℕ} {l r : Tree Item} {e : Option Item} {rest : List (Place Item)} → Pieces w x (node l r) →
    Stacks w st d rest → d < length st → Stacks w (set st d x) (suc d) (record { tree = node l r; edge = e } ∷ rest)
stacks_push {w} {st} {d} {x} {l} {r} p s h =
    pushed (subst (λ (z : ℕ). Pieces w z (node l r)) (sym (get_or-set_same st d x 0 h)) p) (stacks_set d x (omega arith) s)

-- ---- the point

-- the stack's top, and 0 where there is none
abbrev pub top_ref : List (Place Item) → ℕ
top_ref [] = 0
top_ref (p ∷ ps) = ref_of p.tree

-- the slot that keeps a half's point: of an inner node its own, of a leaf that of the stack's top, and 0 where the end is missing
abbrev pub top_slot : List (Place Item) → ℕ
top_slot ps = top_ref ps - most_slots

abbrev pub point_slot : Tree Item → List (Place Item) → ℕ
point_slot (leaf a) st = top_slot st
point_slot (node l r) st = (last l).slot

-- the crossing kept at an inner node, compared
pub node_above : {w v : Words} {x y : ℕ} {l r : Tree Item} (side : Side) (e : Option Item) (q : Place Item) → Pieces w x (node l r) → Pieces v y q.tree →
    above_at w (last l).slot v y ≡ on_or_above item_figure side (record { tree = node l r; edge = e }) q
unfolding on_or_above
node_above {l} {r} side e q p z = seam_above p z ∙ sym (point_above side l r e q.tree (seam_of p).falls)

-- so is a half's point, of a leaf that of the stack's top
point_by : {w v : Words} {x y : ℕ} {st : List ℕ} {d : ℕ} (side : Side) (g : Aim Item) (t : Tree Item) (e : Option Item) (ps : List (Place Item))
    (q : Place Item) → Stands side g (half t e ps) → Pieces w x t → Stacks w st d ps → Pieces v y q.tree →
    above_at w (point_slot t ps) v y ≡ on_or_above item_figure side (record { tree = t; edge = e }) q
unfolding on_or_above
point_by side g (node l r) e ps q s p k z = node_above side e q p z
point_by {w} {v} {y = y} side g (leaf a) e [] q s p empty z =
    sym (above_missing w 0 v y (omega arith))
    ∙ sym (ap (λ (c : Option (Crossing Item)). crossing_on_or_above item_figure side c q.tree) (leaf_point a s refl))
point_by {w} {v} {y = y} side g (leaf a) e (top ∷ rest) q s p (pushed {l = l} {r = r} {e = e'} b k) z =
    ap (λ (i : ℕ). above_at w i v y) (omega arith)
    ∙ node_above side e' q b z
    ∙ sym (ap (λ (c : Option (Crossing Item)). crossing_on_or_above item_figure side c q.tree) (leaf_point a s refl))

pub half_above : {w v : Words} {y : ℕ} {side : Bool} {h : Walk} {m : Half Item} → Fares w side h m → (q : Place Item) → Pieces v y q.tree →
    above_at w (point_slot m.at.tree m.stack) v y ≡ on_or_above item_figure (side_of side) m.at q
half_above {side} {m = m} f q z = point_by (side_of side) f.aim m.at.tree m.at.edge m.stack q f.stands f.stood.here f.stood.stacks z
