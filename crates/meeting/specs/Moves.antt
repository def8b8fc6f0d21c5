-- What each move of the search costs. A half owes the edges of the path to its line that are still to be found: at most the height of the subtree
-- that holds the line, and one more where that is an away child of a stacked node.
use Rattle.std.specs.Prelude.{ℕ, zero, suc, ◌+◌, ◌≤◌, ◌<◌, ◌≡◌, List, [], ◌∷◌, length}
use native.Mathlib.Omega.{arith}
use Rattle.std.proofs.Math.Decide.{dec_le}
use Rattle.std.proofs.Math.Logic.{ite, if_neg}
use Rattle.std.proofs.Math.Option.{Option, none}
use Rattle.trees.specs.Tree.{Tree, leaf, node, height}
use Rattle.meeting.specs.Machine.{Side, away, toward, Place, Half, advance, retreat, pop}
use Rattle.meeting.specs.Located.{Spans, one, two, edge_of, Stacked, bottom, on, rank, spans_some, height_away, height_toward, nearest_edge, Aim, Stands}

module _ {A : Type 0} {side : Side} {a : ℕ → A} {H : ℕ} where
  -- for a line below the stacked nodes
  abbrev pub owed : {stack : List (Place A)} {lo : ℕ} → ℕ → Stacked side a H stack lo → ℕ
  owed x bottom = zero
  owed x (on {lo = lo} {l = l} {r = r} st s t e b) = ite (dec_le lo x) (suc (height (away side l r))) (owed x st)

module _ {A : Type 0} {side : Side} {g : Aim A} where
  pub owes : {h : Half A} → Stands side g h → ℕ
  owes {h} s = ite (dec_le s.lo g.star) (height h.at.tree) (owed g.star s.stacked)

abbrev pub Inner : {A : Type 0} → Tree A → Type 0
Inner (leaf x) = ⊥
Inner (node l r) = Unit {0}

-- After a move the half stands well and owes no more; where the move is won it owes less and the line is below the new place.
pub record Moved {A : Type 0} {side : Side} {g : Aim A} {h : Half A} (s : Stands side g h) (pops pushes : ℕ) (won : Type 0) (h' : Half A) : Type 0 where
  pub after : Stands side g h'
  pub no_more : owes after ≤ owes s
  pub less : won → owes after < owes s
  pub inside : won → after.lo ≤ g.star
  pub depth : length h'.stack + pops ≤ length h.stack + pushes

-- a choice between numbers is monotone, and strictly so where it is made
pub ite_le : {P : Type 0} (d : Dec P) (m n m' n' : ℕ) → m ≤ m' → n ≤ n' → ite d m n ≤ ite d m' n'
ite_le (yes p) m n m' n' h k = h
ite_le (no p) m n m' n' h k = k

pub ite_lt : {P : Type 0} (d : Dec P) (m n m' n' : ℕ) → P → m < m' → ite d m n < ite d m' n'
ite_lt (yes p) m n m' n' q h = h
ite_lt (no p) m n m' n' q h = absurd (p q)

-- what a push does to a choice between the three subtrees that may hold the line
pub deeper : {P Q : Type 0} (d : Dec P) (f : Dec Q) → (P → Q) → (ht ha hn o : ℕ) → ht < hn → ha < hn → ite d ht (ite f (suc ha) o) ≤ ite f hn o
deeper (yes p) (yes q) i ht ha hn o h k = omega arith
deeper (yes p) (no q) i ht ha hn o h k = absurd (q (i p))
deeper (no p) f i ht ha hn o h k = ite_le f _ _ _ _ k (omega arith)

pub deeper_won : {P Q : Type 0} (d : Dec P) (f : Dec Q) → (P → Q) → (ht ha hn o : ℕ) → ht < hn → P → ite d ht (ite f (suc ha) o) < ite f hn o
deeper_won (yes p) (yes q) i ht ha hn o h w = h
deeper_won (yes p) (no q) i ht ha hn o h w = absurd (q (i p))
deeper_won (no p) f i ht ha hn o h w = absurd (p w)

module _ {A : Type 0} where
  abbrev pub half : Tree A → Option A → List (Place A) → Half A
  half t e stack = record { at = record { tree = t; edge = e }; stack = stack }

  abbrev pub standing : {side : Side} (g : Aim A) (t : Tree A) (e : Option A) (stack : List (Place A)) {lo hi : ℕ} → Stacked side g.line g.tall stack lo →
      Spans side g.line lo t hi → e ≡ edge_of g.line lo → length stack + height t ≤ g.tall → hi ≤ g.count → g.star < hi → Stands side g (half t e stack)
  standing g t e stack {lo} {hi} st p q b c d =
      record {
        lo = lo;
        hi = hi;
        stacked = st;
        spans = p;
        edged = q;
        shallow = b;
        bounded = c;
        covers = d;
      }

module _ {A : Type 0} {side : Side} (g : Aim A) where
  pub retreat_by : (t : Tree A) (e : Option A) (stack : List (Place A)) {lo hi : ℕ} (st : Stacked side g.line g.tall stack lo)
      (p : Spans side g.line lo t hi) (q : e ≡ edge_of g.line lo) (b : length stack + height t ≤ g.tall) (c : hi ≤ g.count) (d : g.star < hi) →
      g.star < rank p → Moved (standing g t e stack st p q b c d) 0 0 (lo ≤ g.star) (retreat side (half t e stack))
  unfolding retreat owes
  retreat_by t e stack st (one z) q b c d below =
      record {
        after = standing g t e stack st (one z) q b c d;
        no_more = omega arith;
        less = λ w. absurd (omega arith);
        inside = λ w. w;
        depth = omega arith;
      }
  retreat_by t e stack {lo} st (two {mid = mid} {l = l} {r = r} s s') q b c d below =
      let shorter : height (away side l r) < height (node l r) = height_away side l r in
      let h : height (away side l r) ≤ height (node l r) = omega arith in
      record {
        after = standing g (away side l r) e stack st s q (omega arith) (omega (arith, spans_some s')) below;
        no_more = ite_le (dec_le lo g.star) _ _ _ _ h (omega arith);
        less = λ w. ite_lt (dec_le lo g.star) _ _ _ _ w shorter;
        inside = λ w. w;
        depth = omega arith;
      }

  pub advance_by : (t : Tree A) (e : Option A) (stack : List (Place A)) {lo hi : ℕ} (st : Stacked side g.line g.tall stack lo)
      (p : Spans side g.line lo t hi) (q : e ≡ edge_of g.line lo) (b : length stack + height t ≤ g.tall) (c : hi ≤ g.count) (d : g.star < hi) →
      Moved (standing g t e stack st p q b c d) 0 1 (Inner t × (rank p ≤ g.star)) (advance side (half t e stack))
  unfolding advance owes
  advance_by t e stack st (one z) q b c d =
      record {
        after = standing g t e stack st (one z) q b c d;
        no_more = omega arith;
        less = λ w. absurd w.0;
        inside = λ w. absurd w.0;
        depth = omega arith;
      }
  advance_by t e stack {lo} st (two {mid = mid} {l = l} {r = r} s s') q b c d =
      let k : height (away side l r) < height (node l r) = height_away side l r in
      let h : height (toward side l r) < height (node l r) = height_toward side l r in
      let before : mid ≤ g.star → lo ≤ g.star = λ w. omega (arith, spans_some s) in
      record {
        after = standing g (toward side l r) _ _ (on st s s' q b) s' (nearest_edge s) (omega arith) c d;
        no_more = deeper (dec_le mid g.star) (dec_le lo g.star) before (height (toward side l r)) (height (away side l r)) (height (node l r))
            (owed g.star st) h k;
        less = λ w. deeper_won (dec_le mid g.star) (dec_le lo g.star) before (height (toward side l r)) (height (away side l r)) (height (node l r))
            (owed g.star st) h w.1;
        inside = λ w. w.1;
        depth = omega arith;
      }

  -- the popped node's away child owes one edge less than the stack did for it
  pub pop_by : (t : Tree A) (e : Option A) (top : Place A) (rest : List (Place A)) {lo hi : ℕ} (st : Stacked side g.line g.tall (top ∷ rest) lo)
      (p : Spans side g.line lo t hi) (q : e ≡ edge_of g.line lo) (b : length (top ∷ rest) + height t ≤ g.tall) (c : hi ≤ g.count) (d : g.star < hi)
      → g.star < lo → Moved (standing g t e (top ∷ rest) st p q b c d) 1 0 ⊥ (pop side top rest)
  unfolding pop owes
  pop_by t e top rest (on {lo = from} {mid = mid} {l = l} {r = r} st s s' z y) p q b c d below =
      record {
        after = standing g (away side l r) _ rest st s z (omega (arith, height_away side l r)) (omega (arith, spans_some p)) below;
        no_more = rw (if_neg (dec_le mid g.star) (omega arith)) (ite_le (dec_le from g.star) _ _ _ _ (omega arith) (omega arith));
        less = λ w. absurd w;
        inside = λ w. absurd w;
        depth = omega arith;
      }

  pub retreat_moved : {h : Half A} (s : Stands side g h) → g.star < rank s.spans → Moved s 0 0 (s.lo ≤ g.star) (retreat side h)
  retreat_moved {h} s below = retreat_by h.at.tree h.at.edge h.stack s.stacked s.spans s.edged s.shallow s.bounded s.covers below

-- At the root all that is owed is the tree's height.
pub owes_root : {A : Type 0} {side : Side} {g : Aim A} {t : Tree A} (s : Stands side g (half t none [])) → owes s ≤ height t
unfolding owes
owes_root {A = A} {g = g} {t = t} s = go s.stacked (dec_le s.lo g.star)
  where
    go : {P : Type 0} {side : Side} {a : ℕ → A} {H lo : ℕ} (st : Stacked side a H [] lo) (d : Dec P) → ite d (height t) (owed g.star st) ≤ height t
    go bottom (yes p) = omega arith
    go bottom (no p) = omega arith
