-- What a state of the code's search stands for, and that each of its steps is the machine's.
use Rattle.std.specs.Prelude.{ℕ, ◌+◌, ◌-◌, ◌≤◌, ◌<◌, ◌≡◌, refl, Bool, true, false, not, ◌&&◌, leb, length}
use Rattle.std.proofs.Common.{arith, ◌∙◌, le-leb}
use Rattle.std.proofs.Math.Path.{sym, ap, ap₂}
use mathlib.Core.List.{List, [], ◌∷◌}
use Rattle.std.proofs.Math.Option.{Option, none, some}
use Rattle.std.proofs.lemmas.Bool.{lt-leb}
use Rattle.trees.specs.Tree.{Tree, leaf, node, height}
use Rattle.meeting.specs.Machine.{Side, opposite, is_leaf, Place, on_or_above, Case, mine, theirs, neither, case_of, compare, Half, State, pair}
use Rattle.meeting.specs.Machine.{second, recede, step_by, step}
use Rattle.meeting.specs.Moves.{half}
use Rattle.table.specs.Fields.{most_levels, most_slots}
use Rattle.table.specs.Words.{Words}
use Rattle.table.specs.Items.{Item}
use Rattle.table.specs.Rep.{ref_of}
use Rattle.search.specs.declared.Search.{Search}
use Rattle.walks.specs.ItemLines.{item_figure}
use Rattle.prices.specs.Prices.{above_at}
use Rattle.walks.specs.SearchedPieces.{Pieces, side_of, leaf_low, inner_high}
use Rattle.walks.specs.Walks.{Walk, Stacks, pushed, Stood, Fares, top_ref, point_slot, node_above, half_above}
use Rattle.walks.specs.CodeMoves.{Topped, Pointed, Retreated, Advanced, Popped, top_pieces}
use Rattle.walks.specs.Actions.{Stays}

-- ---- the relation

-- u's and v's walks
abbrev pub u_of : Search → Walk
u_of s = record { at = s.u; stack = s.us; depth = s.ud }

abbrev pub v_of : Search → Walk
v_of s = record { at = s.v; stack = s.vs; depth = s.vd }

pub record Searches (wl wr : Words) (s : Search) (M : State Item) : Type 0 where
  pub u : Stood wl (u_of s) M.u
  pub v : Stood wr (v_of s) M.v

-- two walks as a state that goes on: the first is of the given side
abbrev pub paired : Bool → Walk → Walk → Search
paired false h k =
    record {
      u = h.at;
      v = k.at;
      us = h.stack;
      ud = h.depth;
      vs = k.stack;
      vd = k.depth;
      done = false;
    }
paired true h k =
    record {
      u = k.at;
      v = h.at;
      us = k.stack;
      ud = k.depth;
      vs = h.stack;
      vd = h.depth;
      done = false;
    }

-- of what is ours and what is the other's, the left one and the right one
abbrev pub left_of : Bool → Words → Words → Words
left_of false ours other = ours
left_of true ours other = other

abbrev pub right_of : Bool → Words → Words → Words
right_of false ours other = other
right_of true ours other = ours

-- ---- the promises

-- two walks that recede to two others
pub record Receded (ours other : Words) (side : Bool) (h k h' k' : Walk) : Type 0 where
  pub moved : {m n : Half Item} → Fares ours side h m → Fares other (not side) k n →
      Searches (left_of side ours other) (right_of side ours other) (paired side h' k') (recede item_figure (side_of side) m n)

-- after a step: finished where the machine is, and else where the machine stands
abbrev pub After : Words → Words → Search → Search → Option (State Item) → Type 0
After wl wr s r none = (r.done ≡ true) × (r.u ≡ s.u) × (r.v ≡ s.v)
After wl wr s r (some M) = (r.done ≡ false) × Searches wl wr r M

pub record Stepped (wl wr : Words) (s r : Search) : Type 0 where
  pub moved : {M : State Item} → Fares wl false (u_of s) M.u → Fares wr true (v_of s) M.v → After wl wr s r (step item_figure M)

-- ---- moves that recede

module _ {ours other : Words} {h k : Walk} {m n : Half Item} where
  paired_searches : (side : Bool) → Stood ours h m → Stood other k n →
      Searches (left_of side ours other) (right_of side ours other) (paired side h k) (pair (side_of side) m n)
  paired_searches false p q = record { u = p; v = q }
  paired_searches true p q = record { u = q; v = p }

turn : (side : Bool) → opposite (side_of side) ≡ side_of (not side)
turn false = refl
turn true = refl

mine_case : (b c : Bool) → b ≡ true → case_of b c ≡ mine
mine_case b c e = ap (λ (d : Bool). case_of d c) e

-- a fared walk has room for what it may push
roomy : {w : Words} {side : Bool} {h : Walk} {m : Half Item} → Fares w side h m → length m.stack + height m.at.tree ≤ most_levels
roomy f = omega (arith, f.stands.shallow, f.low)

-- the stack's top, compared
top_above : {w v : Words} {st : List ℕ} {d y : ℕ} {top : Place Item} {rest : List (Place Item)} (side : Side) (t : ℕ) (q : Place Item) →
    Stacks w st d (top ∷ rest) → t ≡ ref_of top.tree → Pieces v y q.tree → above_at w (t - most_slots) v y ≡ on_or_above item_figure side top q
top_above {w} {v} {y = y} side t q (pushed {l = l} {r = r} {e = e} p s) z b = ap (λ (i : ℕ). above_at w i v y) (omega (arith, z)) ∙ node_above side e q p b

module _ {ours other : Words} {side : Bool} {h k : Walk} {t : Tree Item} {e : Option Item} {top : Place Item} {rest : List (Place Item)} {n : Half Item} where
  -- the second comparison
  second_case : (x p : ℕ) → Fares ours side h (half t e (top ∷ rest)) → Fares other (not side) k n → x ≡ ref_of top.tree →
      p ≡ point_slot n.at.tree n.stack → compare item_figure (side_of side) top n.at ≡ case_of (above_at ours (x - most_slots) other k.at)
      (above_at other p ours x)
  unfolding compare
  second_case x p f g a b =
      ap₂ case_of (sym (top_above (side_of side) x n.at f.stood.stacks a g.stood.here))
      (ap (λ (s : Side). on_or_above item_figure s n.at top) (turn side) ∙ sym (half_above g top (top_pieces f.stood x a))
      ∙ ap (λ (i : ℕ). above_at other i ours x) (sym b))

top_high : {w : Words} {st : List ℕ} {d : ℕ} {top : Place Item} {rest : List (Place Item)} → Stacks w st d (top ∷ rest) → most_slots < ref_of top.tree
top_high (pushed p s) = omega (arith, inner_high p, p.rep.root)

module _ {ours other : Words} {side : Bool} {h k : Walk} {n : Half Item} (g : Fares other (not side) k n) where
  -- nothing to pop
  bottom_by : {h' k' : Walk} (t : Tree Item) (e : Option Item) (ps : List (Place Item)) (f : Fares ours side h (half t e ps)) (x : ℕ) → x ≡ top_ref ps →
      x < 1 → Retreated ours side h h' → Stays other k k' → Searches (left_of side ours other) (right_of side ours other) (paired side h' k')
      (recede item_figure (side_of side) (half t e ps) n)
  unfolding recede
  bottom_by t e [] f x q d a b = paired_searches side (a.moved f.stood) (b.moved g.stood)
  bottom_by t e (top ∷ rest) f x q d a b = absurd (omega (arith, q, top_high f.stood.stacks))

  -- a leaf pops
  leaf_by : {h' k' : Walk} (t : Tree Item) (e : Option Item) (ps : List (Place Item)) (f : Fares ours side h (half t e ps)) (x : ℕ) → x ≡ top_ref ps →
      1 ≤ x → h.at ≤ most_slots → Popped ours side h h' → Stays other k k' →
      Searches (left_of side ours other) (right_of side ours other) (paired side h' k') (recede item_figure (side_of side) (half t e ps) n)
  unfolding recede
  leaf_by t e [] f x q d l a b = absurd (omega (arith, q))
  leaf_by (leaf y) e (top ∷ rest) f x q d l a b = paired_searches side (a.moved f.stood) (b.moved g.stood)
  leaf_by (node y z) e (top ∷ rest) f x q d l a b = absurd (omega (arith, inner_high f.stood.here))

  -- an inner node goes by the second comparison
  second_by : {r : Search} (t : Tree Item) (e : Option Item) (ps : List (Place Item)) (f : Fares ours side h (half t e ps)) → most_slots < h.at →
      (x p : ℕ) → 1 ≤ x → x ≡ top_ref ps → p ≡ point_slot n.at.tree n.stack → (c : Case) →
      case_of (above_at ours (x - most_slots) other k.at) (above_at other p ours x) ≡ c →
      ((top : Place Item) (rest : List (Place Item)) → Fares ours side h (half t e (top ∷ rest)) →
      Searches (left_of side ours other) (right_of side ours other) r (second item_figure (side_of side) c (half t e (top ∷ rest)) n top rest)) →
      Searches (left_of side ours other) (right_of side ours other) r (recede item_figure (side_of side) (half t e ps) n)
  unfolding recede
  second_by t e [] f l x p d a b c q s = absurd (omega (arith, a))
  second_by (leaf y) e (top ∷ rest) f l x p d a b c q s = absurd (omega (arith, leaf_low f.stood.here))
  second_by (node y z) e (top ∷ rest) f l x p d a b c q s = rw (second_case x p f g a b ∙ q) (s top rest f)

-- ---- each of the moves where ours recedes

first_by : (ours other : Words) (x y z : ℕ) {b : Bool} → y ≡ x - most_slots → above_at ours y other z ≡ b → above_at ours (x - most_slots) other z ≡ b
first_by ours other x y z q e = ap (λ (i : ℕ). above_at ours i other z) (sym q) ∙ e

module _ {ours other : Words} {side : Bool} {h k h' k' : Walk} (x : ℕ) (top : Topped h x) where
  pub receded_bottom : x < 1 → Retreated ours side h h' → Stays other k k' → Receded ours other side h k h' k'
  receded_bottom d a b = record { moved = λ {m} {n} f g. bottom_by g m.at.tree m.at.edge m.stack f x (top.is f.stood) d a b }

  module _ (deep : 1 ≤ x) where
    pub receded_leaf : h.at ≤ most_slots → Popped ours side h h' → Stays other k k' → Receded ours other side h k h' k'
    receded_leaf l a b = record { moved = λ {m} {n} f g. leaf_by g m.at.tree m.at.edge m.stack f x (top.is f.stood) deep l a b }

    module _ (inner : most_slots < h.at) (y : ℕ) (at_top : y ≡ x - most_slots) where
      pub receded_mine : Popped ours side h h' → Stays other k k' → above_at ours y other k.at ≡ true → Receded ours other side h k h' k'
      receded_mine a b e =
          record {
            moved = λ {m} {n} f g.
                second_by g m.at.tree m.at.edge m.stack f inner x (point_slot n.at.tree n.stack) deep (top.is f.stood) refl mine
                (mine_case _ _ (first_by ours other x y k.at at_top e)) (λ t rest f'. paired_searches side (a.moved f'.stood) (b.moved g.stood));
          }

      module _ (p : ℕ) (point : Pointed k p) (clear : above_at ours y other k.at ≡ false) where
        pub receded_theirs : Retreated ours side h h' → Retreated other (not side) k k' → above_at other p ours x ≡ true → Receded ours other side h k h' k'
        receded_theirs a b e =
            record {
              moved = λ {m} {n} f g.
                  second_by g m.at.tree m.at.edge m.stack f inner x p deep (top.is f.stood) (point.is g.stood) theirs
                  (ap₂ case_of (first_by ours other x y k.at at_top clear) e) (λ t rest f'. paired_searches side (a.moved f'.stood)
                  (rw (turn side) (b.moved g.stood)));
            }

        pub receded_neither : Retreated ours side h h' → Advanced other (not side) k k' → above_at other p ours x ≡ false → Receded ours other side h k h' k'
        receded_neither a b e =
            record {
              moved = λ {m} {n} f g.
                  second_by g m.at.tree m.at.edge m.stack f inner x p deep (top.is f.stood) (point.is g.stood) neither
                  (ap₂ case_of (first_by ours other x y k.at at_top clear) e)
                  (λ t rest f'. paired_searches side (a.moved f'.stood) (rw (turn side) (b.moved g.stood (roomy g))));
            }

-- ---- each of the steps

leaf_test : {w : Words} {x : ℕ} (t : Tree Item) → Pieces w x t → leb x most_slots ≡ is_leaf t
leaf_test {x} (leaf a) p = le-leb x most_slots (leaf_low p)
leaf_test {x} (node l r) p = lt-leb x most_slots (inner_high p)

module _ (wl wr : Words) (s : Search) where
  -- the machine's step, by the code's two comparisons
  step_by_lem : (r : Search) {p q : ℕ} {M : State Item} (c : Case) → p ≡ point_slot M.u.at.tree M.u.stack →
      q ≡ point_slot M.v.at.tree M.v.stack → case_of (above_at wl p wr s.v) (above_at wr q wl s.u) ≡ c → Fares wl false (u_of s) M.u →
      Fares wr true (v_of s) M.v → After wl wr s r (step_by item_figure c M) → After wl wr s r (step item_figure M)
  unfolding step compare
  step_by_lem r {p} {q} {M} c a b e f g z =
      let u : above_at wl p wr s.v ≡ on_or_above item_figure (side_of false) M.u.at M.v.at =
      ap (λ (i : ℕ). above_at wl i wr s.v) a ∙ half_above f M.v.at g.stood.here in
      let v : above_at wr q wl s.u ≡ on_or_above item_figure (side_of true) M.v.at M.u.at =
      ap (λ (i : ℕ). above_at wr i wl s.u) b ∙ half_above g M.u.at f.stood.here in
      rw (sym (ap₂ case_of u v) ∙ e) z

  leaves_test : {M : State Item} (b : Bool) → leb s.u most_slots && leb s.v most_slots ≡ b → Fares wl false (u_of s) M.u →
      Fares wr true (v_of s) M.v → is_leaf M.u.at.tree && is_leaf M.v.at.tree ≡ b
  leaves_test {M} b e f g = sym (ap₂ ◌&&◌ (leaf_test M.u.at.tree f.stood.here) (leaf_test M.v.at.tree g.stood.here)) ∙ e

module _ {wl wr : Words} {s r : Search} {p : ℕ} (pu : Pointed (u_of s) p) where
  pub stepped_mine : above_at wl p wr s.v ≡ true → r.done ≡ false → Receded wl wr false (u_of s) (v_of s) (u_of r) (v_of r) → Stepped wl wr s r
  stepped_mine a d z =
      record {
        moved = λ f g.
            let q = z.moved f g in
            step_by_lem wl wr s r mine (pu.is f.stood) refl (mine_case _ _ a) f g (d, record { u = q.u; v = q.v });
      }

  module _ {q : ℕ} (pv : Pointed (v_of s) q) (clear : above_at wl p wr s.v ≡ false) where
    pub stepped_theirs : above_at wr q wl s.u ≡ true → r.done ≡ false → Receded wr wl true (v_of s) (u_of s) (v_of r) (u_of r) → Stepped wl wr s r
    stepped_theirs a d z =
        record {
          moved = λ f g.
              let q = z.moved g f in
              step_by_lem wl wr s r theirs (pu.is f.stood) (pv.is g.stood) (ap₂ case_of clear a) f g (d, record { u = q.u; v = q.v });
        }

    module _ (clear' : above_at wr q wl s.u ≡ false) where
      pub stepped_done : leb s.u most_slots && leb s.v most_slots ≡ true → r.done ≡ true → Stays wl (u_of s) (u_of r) → Stays wr (v_of s) (v_of r) →
          Stepped wl wr s r
      stepped_done e d a b =
          record {
            moved = λ {M} f g.
                step_by_lem wl wr s r neither (pu.is f.stood) (pv.is g.stood) (ap₂ case_of clear clear') f g
                (rw (leaves_test wl wr s true e f g) (d, a.at, b.at));
          }

      pub stepped_on : leb s.u most_slots && leb s.v most_slots ≡ false → r.done ≡ false → Advanced wl false (u_of s) (u_of r) →
          Advanced wr true (v_of s) (v_of r) → Stepped wl wr s r
      stepped_on e d a b =
          record {
            moved = λ {M} f g.
                step_by_lem wl wr s r neither (pu.is f.stood) (pv.is g.stood) (ap₂ case_of clear clear') f g
                (rw (leaves_test wl wr s false e f g) (d, record { u = a.moved f.stood (roomy f); v = b.moved g.stood (roomy g) }));
          }
