-- Steps that follow one another: what one leaves is what the next finds.
use Rattle.std.specs.Prelude.{◌≡◌, Bool, ℕ, ◌≤◌}
use Rattle.std.proofs.Common.{sym, ◌∙◌, ap, subst}
use Rattle.trees.specs.Tree.{Tree, leaves}
use Rattle.table.specs.Fields.{order_tree}
use Rattle.table.specs.Words.{Words}
use Rattle.table.specs.Layout.{cap}
use Rattle.table.specs.Items.{Item, In, Slots}
use Rattle.table.specs.Rep.{ref_of, node_on, seam, Tied, tied_still, Rep, Within, within_cap, within_trans, only_trans, only_more, inner_in}
use Rattle.table.specs.Nodes.{Pair, pair_one, Made, on_one, on_other, on_across, in_other}
use Rattle.shape.specs.Sides.{row_on, seam_first}
use Rattle.nodes.specs.Joining.{Joined}

-- a tree that shares no slot with the one that was made stands as before
pub tied_beside : {k y : ℕ} {w w' : Words} {ty tq : Tree Item} → Made k w w' y ty → Tied w k tq → ((s : ℕ) → In s (leaves ty) → In s (leaves tq) → ⊥) →
    Tied w' k tq
tied_beside m t d = tied_still t m.only (λ s i j. d s j (inner_in i))

-- the tree that was made, on a side, and one that stood beside it
pub pair_made : {k y q : ℕ} {w w' : Words} {ty tq : Tree Item} (side : Bool) → Within w w' → Made k w w' y ty → q ≡ ref_of tq → Tied w k tq →
    Slots (cap w) (leaves (node_on side ty tq)) → Pair w' k side y q ty tq
pair_made {ty} {tq} side g m e t s =
    record {
      kind = m.rep.kind;
      one = m.rep.root;
      other = e;
      slots = rw (within_cap g) s;
      tied_one = m.rep.tied;
      tied_other = tied_beside m t (λ n i j. on_across ty tq side s i j);
    }

pub pair_beside : {k p y : ℕ} {w w' : Words} {tp ty : Tree Item} (side : Bool) → Within w w' → Made k w w' y ty → p ≡ ref_of tp → Tied w k tp →
    Slots (cap w) (leaves (node_on side tp ty)) → Pair w' k side p y tp ty
pair_beside {tp} {ty} side g m e t s =
    record {
      kind = m.rep.kind;
      one = e;
      other = m.rep.root;
      slots = rw (within_cap g) s;
      tied_other = m.rep.tied;
      tied_one = tied_beside m t (λ n i j. on_across tp ty side s j i);
    }

-- a tree made of one that was made before
pub made_then : {k y x : ℕ} {w w' w'' : Words} {ty t : Tree Item} → Made k w w' y ty → Made k w' w'' x t → ((s : ℕ) → In s (leaves ty) → In s (leaves t)) →
    Made k w w'' x t
made_then a b sub = record { rep = b.rep; only = only_trans (only_more sub a.only) b.only }

pub made_as : {k x : ℕ} {w w' : Words} {s t : Tree Item} → s ≡ t → Made k w w' x s → Made k w w' x t
made_as {k} {x} {w} {w'} e m = subst (λ t. Made k w w' x t) e m

-- ---- three trees in a row

pub record Row (w : Words) (k : ℕ) (side : Bool) (p m q : ℕ) (tp tm tq : Tree Item) : Type 0 where
  pub kind : k ≤ order_tree
  pub one : p ≡ ref_of tp
  pub middle : m ≡ ref_of tm
  pub other : q ≡ ref_of tq
  pub slots : Slots (cap w) (leaves (row_on side tp tm tq))
  pub tied_one : Tied w k tp
  pub tied_middle : Tied w k tm
  pub tied_other : Tied w k tq

-- the promise of `Joined`, for three trees in a row with the slots of both seams
pub record Rowed (shape : Tree Item → Tree Item → Tree Item → Tree Item) (k : ℕ) (side : Bool) (near far p m q : ℕ) (w w' : Words) (x : ℕ) : Type 0 where
  pub within : Within w w'
  pub made : (tp tm tq : Tree Item) → Row w k side p m q tp tm tq → near ≡ (seam side tp tm).slot → far ≡ (seam side tm tq).slot → Made k w w' x (shape tp tm tq)

pub row_pair : {w : Words} {k p m q : ℕ} {side : Bool} {tp tm tq : Tree Item} → Row w k side p m q tp tm tq → Pair w k side m q tm tq
row_pair {side} {tp} {tm} {tq} r =
    record {
      kind = r.kind;
      one = r.middle;
      other = r.other;
      slots = on_other tp (node_on side tm tq) side r.slots;
      tied_one = r.tied_middle;
      tied_other = r.tied_other;
    }

pub row_one : {w : Words} {k p m q : ℕ} {side : Bool} {tp tm tq : Tree Item} → Row w k side p m q tp tm tq → Rep w k p tp
row_one {side} {tp} {tm} {tq} r = record { kind = r.kind; root = r.one; slots = on_one tp (node_on side tm tq) side r.slots; tied = r.tied_one }

pub row_middle : {w : Words} {k p m q : ℕ} {side : Bool} {tp tm tq : Tree Item} → Row w k side p m q tp tm tq → Rep w k m tm
row_middle r = pair_one (row_pair r)

-- a node over the last two, then one over that and the first
pub rowed : {k near far p m q y x : ℕ} {side : Bool} {w w₁ w₂ : Words} → Joined (node_on side) k side far m q w w₁ y →
    Joined (node_on side) k side near p y w₁ w₂ x → Rowed (row_on side) k side near far p m q w w₂ x
rowed {k} {near} {far} {p} {m} {q} {y} {x} {side} {w} {w₁} {w₂} a b = record { within = within_trans a.within b.within; made = made }
  where
    made : (tp tm tq : Tree Item) → Row w k side p m q tp tm tq → near ≡ (seam side tp tm).slot → far ≡ (seam side tm tq).slot →
        Made k w w₂ x (row_on side tp tm tq)
    made tp tm tq r e d =
        let first = a.made tm tq (row_pair r) d in
        made_then first (b.made tp (node_on side tm tq) (pair_beside side a.within first r.one r.tied_one r.slots)
        (e ∙ ap (λ (i : Item). i.slot) (sym (seam_first side tp tm tq))))
        (λ s i. in_other side tp (node_on side tm tq) i)
