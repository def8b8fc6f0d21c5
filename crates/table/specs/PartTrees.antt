-- Trees that may be empty, kept in words: node number 0 is the empty one.
use Rattle.std.specs.Prelude.{◌≡◌, refl, true, false, List, [], ◌∷◌, ◌++◌, ℕ, ◌≤◌}
use Rattle.std.proofs.Common.{◌∙◌, arith}
use Rattle.std.proofs.Math.Option.{none, some}
use Rattle.trees.specs.Tree.{Tree, leaf, node, height, leaves, last, Avl}
use Rattle.trees.specs.Operations.{Part, part_leaves}
use Rattle.trees.specs.Height.{height_full}
use Rattle.table.specs.Fields.{most_levels, order_tree}
use Rattle.table.specs.Words.{Words}
use Rattle.table.specs.Layout.{cap, cap_most}
use Rattle.table.specs.Items.{Item, In, Slots, slots_none, slots_left, slots_right, slots_most}
use Rattle.table.specs.Rep.{child_at, ref_of, Tied, tied_leaf, tied_still, Rep, Within, within_cap, Only, inner_in}
use Rattle.table.specs.Nodes.{parents, Made}

abbrev pub part_ref : Part Item → ℕ
part_ref none = 0
part_ref (some t) = ref_of t

abbrev pub TiedPart : Words → ℕ → Part Item → Type 0
TiedPart w k none = Unit {0}
TiedPart w k (some t) = Tied w k t

pub record RepP (w : Words) (k x : ℕ) (p : Part Item) : Type 0 where
  pub kind : k ≤ order_tree
  pub root : x ≡ part_ref p
  pub slots : Slots (cap w) (part_leaves p)
  pub tied : TiedPart w k p

pub rep_p_none : {w : Words} {k : ℕ} → k ≤ order_tree → RepP w k 0 none
rep_p_none h = record { kind = h; root = refl; slots = slots_none; tied = tt }

pub rep_p_leaf : {w : Words} {k x : ℕ} {a : Item} → k ≤ order_tree → x ≡ a.slot → Slots (cap w) (a ∷ []) → RepP w k x (some (leaf a))
rep_p_leaf h e s = record { kind = h; root = e; slots = s; tied = tied_leaf }

-- x is the root of p, and nothing but nodes of p was written
pub record MadeP (k : ℕ) (w w' : Words) (x : ℕ) (p : Part Item) : Type 0 where
  pub rep : RepP w' k x p
  pub only : Only k (part_leaves p) w w'

pub made_some : {k x : ℕ} {w w' : Words} {t : Tree Item} → Made k w w' x t → MadeP k w w' x (some t)
made_some m = record { rep = record { kind = m.rep.kind; root = m.rep.root; slots = m.rep.slots; tied = m.rep.tied }; only = m.only }

pub rep_some : {w : Words} {k x : ℕ} {t : Tree Item} → RepP w k x (some t) → Rep w k x t
rep_some r = record { kind = r.kind; root = r.root; slots = r.slots; tied = r.tied }

-- ---- the children of an inner node

pub left_child : {w : Words} {k x l : ℕ} {s t : Tree Item} → l ≡ child_at w k false x → RepP w k x (some (node s t)) → RepP w k l (some s)
left_child {t} e r =
    let o = parents (rep_some r) in
    record { kind = r.kind; root = e ∙ o.left_at; slots = slots_left (leaves t) r.slots; tied = o.tied_left }

pub right_child : {w : Words} {k x y : ℕ} {s t : Tree Item} → y ≡ child_at w k true x → RepP w k x (some (node s t)) → RepP w k y (some t)
right_child {s} e r =
    let o = parents (rep_some r) in
    record { kind = r.kind; root = e ∙ o.right_at; slots = slots_right (leaves s) r.slots; tied = o.tied_right }

-- ---- what was not written

pub tied_p_still : {k : ℕ} {xs : List Item} {w w' : Words} (p : Part Item) → TiedPart w k p → Only k xs w w' →
    ((s : ℕ) → In s xs → In s (part_leaves p) → ⊥) → TiedPart w' k p
tied_p_still none t g d = tt
tied_p_still (some u) t g d = tied_still t g (λ s i j. d s j (inner_in i))

-- a part that shares no slot with what was written stands as before
pub rep_p_still : {k x : ℕ} {xs : List Item} {w w' : Words} (p : Part Item) → RepP w k x p → Within w w' → Only k xs w w' →
    ((s : ℕ) → In s xs → In s (part_leaves p) → ⊥) → RepP w' k x p
rep_p_still p r g o d = record { kind = r.kind; root = r.root; slots = rw (within_cap g) r.slots; tied = tied_p_still p r.tied o d }

-- a balanced tree in a table is at most most_levels high
pub low : (w : Words) {t : Tree Item} → Slots (cap w) (leaves t) → Avl t → height t ≤ most_levels
low w {t} s a = height_full a (omega (arith, slots_most (cap w) (leaves t) s, cap_most w))

-- ---- two parts side by side

pub record PairP (w : Words) (k l r : ℕ) (pl pr : Part Item) : Type 0 where
  pub kind : k ≤ order_tree
  pub left : l ≡ part_ref pl
  pub right : r ≡ part_ref pr
  pub slots : Slots (cap w) (part_leaves pl ++ part_leaves pr)
  pub tied_left : TiedPart w k pl
  pub tied_right : TiedPart w k pr

-- the slot of the seam, where there is one
abbrev pub Seam : ℕ → Part Item → Part Item → Type 0
Seam gap none pr = Unit {0}
Seam gap (some tl) none = Unit {0}
Seam gap (some tl) (some tr) = gap ≡ (last tl).slot

pub seam_left : (g : ℕ) (t : Tree Item) (q : Part Item) → g ≡ (last t).slot → Seam g (some t) q
seam_left g t none e = tt
seam_left g t (some u) e = e
