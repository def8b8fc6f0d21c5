-- What the code's functions on a walk are held to, and why each of their answers is right. A walk may hold anything: each promise is for a walk
-- that stands for a half of the machine's state.
use Rattle.std.specs.Prelude.{ℕ, suc, ◌+◌, ◌-◌, ◌≤◌, ◌<◌, ◌≡◌, refl, Bool, not, cond, leb, ltb, length, get_or}
use Rattle.std.proofs.Common.{arith, sym, ◌∙◌, ap, le-leb, lt-ltb, le-ltb}
use Rattle.std.proofs.Math.Decide.{dec_le, dec_lt}
use Rattle.std.proofs.Math.Numerals.{add-one}
use Rattle.std.proofs.Math.Path.{subst}
use mathlib.Core.List.{List, ◌∷◌}
use Rattle.std.proofs.Math.Option.{Option}
use Rattle.std.proofs.lemmas.Bool.{lt-leb}
use Rattle.std.proofs.Math.ListN.{set, length-set, get_or-eq_default}
use Rattle.trees.specs.Tree.{Tree, leaf, node, height}
use Rattle.meeting.specs.Machine.{Place, Half, advance, retreat, pop}
use Rattle.meeting.specs.Moves.{half}
use Rattle.table.specs.Fields.{most_levels, most_slots, piece_tree}
use Rattle.table.specs.Words.{Words}
use Rattle.table.specs.Items.{Item}
use Rattle.table.specs.Rep.{child_at, ref_of}
use Rattle.walks.specs.SearchedPieces.{Pieces, side_of, pieces_away, pieces_toward, leaf_low, inner_high, seam_at_lem}
use Rattle.walks.specs.Walks.{Walk, Stacks, empty, pushed, Stood, stacks_depth, stacks_push, top_ref, point_slot}

-- ---- the promises

pub record Topped (h : Walk) (r : ℕ) : Type 0 where
  pub is : {w : Words} {m : Half Item} → Stood w h m → r ≡ top_ref m.stack

pub record Pointed (h : Walk) (r : ℕ) : Type 0 where
  pub is : {w : Words} {m : Half Item} → Stood w h m → r ≡ point_slot m.at.tree m.stack

pub record Retreated (w : Words) (side : Bool) (h r : Walk) : Type 0 where
  pub moved : {m : Half Item} → Stood w h m → Stood w r (retreat (side_of side) m)

pub record Advanced (w : Words) (side : Bool) (h r : Walk) : Type 0 where
  pub moved : {m : Half Item} → Stood w h m → length m.stack + height m.at.tree ≤ most_levels → Stood w r (advance (side_of side) m)

pub record Popped (w : Words) (side : Bool) (h r : Walk) : Type 0 where
  pub moved : {t : Tree Item} {e : Option Item} {top : Place Item} {rest : List (Place Item)} → Stood w h (half t e (top ∷ rest)) →
      Stood w r (pop (side_of side) top rest)

-- ---- why: the top and the point

-- the stack holds what is pushed, since word 0 is no inner node
stacks_room : {w : Words} {st : List ℕ} {d : ℕ} {ps : List (Place Item)} → Stacks w st d ps → d ≤ length st
stacks_room empty = omega arith
stacks_room {st} (pushed {d = d} {l = l} {r = r} p s) = inside (dec_lt d (length st))
  where
    inside : Dec (d < length st) → suc d ≤ length st
    inside (yes h) = h
    inside (no h) = absurd (omega (arith, inner_high p, get_or-eq_default st 0 {n = d} (omega arith)))

module _ {w : Words} {h : Walk} {m : Half Item} (s : Stood w h m) where
  pub top_none : h.depth < 1 → 0 ≡ top_ref m.stack
  top_none k = go s.stacks k
    where
      go : {d : ℕ} {ps : List (Place Item)} → Stacks w h.stack d ps → d < 1 → 0 ≡ top_ref ps
      go empty k = refl
      go (pushed p z) k = absurd (omega arith)

  pub top_over : most_levels < h.depth → ⊥
  top_over k = omega (arith, stacks_room s.stacks, s.room)

  pub top_at : 1 ≤ h.depth → get_or h.stack (h.depth - 1) 0 ≡ top_ref m.stack
  top_at k = go s.stacks k
    where
      go : {d : ℕ} {ps : List (Place Item)} → Stacks w h.stack d ps → 1 ≤ d → get_or h.stack (d - 1) 0 ≡ top_ref ps
      go empty k = absurd (omega arith)
      go (pushed {d = d} p z) k = ap (λ (i : ℕ). get_or h.stack i 0) (omega arith) ∙ p.rep.root

  pub point_leaf : h.at ≤ most_slots → (x : ℕ) → x ≡ top_ref m.stack → x - most_slots ≡ point_slot m.at.tree m.stack
  point_leaf k x e = go m.at.tree s.here
    where
      go : (t : Tree Item) → Pieces w h.at t → x - most_slots ≡ point_slot t m.stack
      go (leaf a) p = ap (λ (i : ℕ). i - most_slots) e
      go (node l r) p = absurd (omega (arith, inner_high p))

  pub point_node : most_slots < h.at → h.at - most_slots ≡ point_slot m.at.tree m.stack
  point_node k = go m.at.tree s.here
    where
      go : (t : Tree Item) → Pieces w h.at t → h.at - most_slots ≡ point_slot t m.stack
      go (leaf a) p = absurd (omega (arith, leaf_low p))
      go (node l r) p = seam_at_lem p

-- ---- why: the moves

module _ {w : Words} (side : Bool) {h : Walk} {m : Half Item} (s : Stood w h m) where
  pub retreat_leaf : h.at ≤ most_slots → Stood w h (retreat (side_of side) m)
  unfolding retreat
  retreat_leaf k = go m.at.tree s.here
    where
      go : (t : Tree Item) → Pieces w h.at t → Stood w h (retreat (side_of side) (half t m.at.edge m.stack))
      go (leaf a) p = record { here = p; stacks = s.stacks; room = s.room }
      go (node l r) p = absurd (omega (arith, inner_high p))

  pub retreat_node : most_slots < h.at → (x : ℕ) → x ≡ child_at w piece_tree side h.at →
      Stood w (record { at = x; stack = h.stack; depth = h.depth }) (retreat (side_of side) m)
  unfolding retreat
  retreat_node k x e = go m.at.tree s.here
    where
      go : (t : Tree Item) → Pieces w h.at t → Stood w (record { at = x; stack = h.stack; depth = h.depth })
          (retreat (side_of side) (half t m.at.edge m.stack))
      go (leaf a) p = absurd (omega (arith, leaf_low p))
      go (node l r) p = record { here = rw e (pieces_away side p); stacks = s.stacks; room = s.room }

  pub advance_leaf : h.at ≤ most_slots → Stood w h (advance (side_of side) m)
  unfolding advance
  advance_leaf k = go m.at.tree s.here
    where
      go : (t : Tree Item) → Pieces w h.at t → Stood w h (advance (side_of side) (half t m.at.edge m.stack))
      go (leaf a) p = record { here = p; stacks = s.stacks; room = s.room }
      go (node l r) p = absurd (omega (arith, inner_high p))

  -- an inner node's stack is not full
  pub advance_full : most_slots < h.at → length m.stack + height m.at.tree ≤ most_levels → most_levels ≤ h.depth → ⊥
  advance_full k b f = go m.at.tree s.here b
    where
      go : (t : Tree Item) → Pieces w h.at t → length m.stack + height t ≤ most_levels → ⊥
      go (leaf a) p b = omega (arith, leaf_low p)
      go (node l r) p b = omega (arith, stacks_depth s.stacks)

  pub advance_node : most_slots < h.at → h.depth < most_levels → (x : ℕ) → x ≡ child_at w piece_tree (not side) h.at →
      Stood w (record { at = x; stack = set h.stack h.depth h.at; depth = h.depth + 1 }) (advance (side_of side) m)
  unfolding advance
  advance_node k f x e = go m.at.tree s.here
    where
      go : (t : Tree Item) → Pieces w h.at t → Stood w (record { at = x; stack = set h.stack h.depth h.at; depth = h.depth + 1 })
          (advance (side_of side) (half t m.at.edge m.stack))
      go (leaf a) p = absurd (omega (arith, leaf_low p))
      go (node l r) p =
          record {
            here = rw e (pieces_toward side p);
            stacks = rw add-one (stacks_push p s.stacks (omega (arith, s.room)));
            room = length-set h.stack h.depth h.at ∙ s.room;
          }

module _ {w : Words} {h : Walk} {t : Tree Item} {e : Option Item} {top : Place Item} {rest : List (Place Item)} (s : Stood w h (half t e (top ∷ rest))) where
  pub pop_empty : h.depth < 1 → ⊥
  pop_empty k = omega (arith, stacks_depth s.stacks)

  -- the top is a node of the table
  pub top_pieces : (y : ℕ) → y ≡ ref_of top.tree → Pieces w y top.tree
  top_pieces y q = go s.stacks q
    where
      go : {d : ℕ} {top : Place Item} {rest : List (Place Item)} → Stacks w h.stack d (top ∷ rest) → y ≡ ref_of top.tree → Pieces w y top.tree
      go (pushed p z) q = rw (q ∙ sym p.rep.root) p

  pub pop_node : (side : Bool) (x y : ℕ) → y ≡ ref_of top.tree → x ≡ child_at w piece_tree side y →
      Stood w (record { at = x; stack = h.stack; depth = h.depth - 1 }) (pop (side_of side) top rest)
  unfolding pop
  pop_node side x y q a = go s.stacks q
    where
      go : {d : ℕ} {top : Place Item} {rest : List (Place Item)} → Stacks w h.stack d (top ∷ rest) → y ≡ ref_of top.tree →
          Stood w (record { at = x; stack = h.stack; depth = d - 1 }) (pop (side_of side) top rest)
      go (pushed {d = d} {rest = rest} p z) q =
          record {
            here = rw (a, q, ← p.rep.root) (pieces_away side p);
            stacks = subst (λ (i : ℕ). Stacks w h.stack i rest) (omega arith) z;
            room = s.room;
          }

-- ---- the top and the point, by the code's numbers

-- the node pushed last
abbrev pub top_in : List ℕ → ℕ → ℕ
top_in stack depth = cond (ltb depth 1) 0 (cond (ltb most_levels depth) 0 (get_or stack (depth - 1) 0))

abbrev pub point_word : ℕ → ℕ → ℕ
point_word at top = cond (leb at most_slots) (top - most_slots) (at - most_slots)

-- any stack with the same top will do
pub topped_by : {h : Walk} (st : List ℕ) {t : ℕ} → ((i : ℕ) → i < h.depth → get_or st i 0 ≡ get_or h.stack i 0) → t ≡ top_in st h.depth → Topped h t
topped_by {h} st {t} same e = record { is = λ s. go s (dec_lt h.depth 1) }
  where
    go : {w : Words} {m : Half Item} → Stood w h m → Dec (h.depth < 1) → t ≡ top_ref m.stack
    go s (yes k) = e ∙ rw (lt-ltb h.depth 1 k) (top_none s k)
    go s (no k) =
        let l : 1 ≤ h.depth = omega arith in
        let n : h.depth ≤ most_levels = omega (arith, stacks_room s.stacks, s.room) in
        e ∙ rw (le-ltb h.depth 1 l, le-ltb most_levels h.depth n) (same (h.depth - 1) (omega arith) ∙ top_at s l)

pub pointed_by : {h : Walk} {t p : ℕ} → Topped h t → p ≡ point_word h.at t → Pointed h p
pointed_by {h} {t} {p} a e = record { is = λ s. go s (dec_le h.at most_slots) }
  where
    go : {w : Words} {m : Half Item} → Stood w h m → Dec (h.at ≤ most_slots) → p ≡ point_slot m.at.tree m.stack
    go s (yes k) = e ∙ rw (le-leb h.at most_slots k) (point_leaf s k t (a.is s))
    go s (no k) =
        let l : most_slots < h.at = omega arith in
        e ∙ rw (lt-leb h.at most_slots l) (point_node s l)
