-- A search followed step by step, as a loop does it: what is reached stays sound, and where the steps end they are those that `meet` counts.
use Prim.Native.Nat.{ℕ, zero, suc, ◌+◌, ◌*◌, ◌-◌, ◌≤◌, ◌<◌}
use Rattle.std.proofs.Common.{arith, ◌∙◌}
use Rattle.std.specs.Prelude.{◌≡◌, refl, List, ◌∷◌, length}
use Rattle.std.proofs.Math.Path.{ap}
use Rattle.std.proofs.Math.Bool.{true}
use Rattle.std.proofs.Math.Option.{none, some}
use Rattle.envelopes.specs.PseudoLines.{Figure}
use Rattle.trees.specs.Tree.{Tree, leaf, node, height}
use Rattle.meeting.specs.Machine.{Side, left, right, Place, Half, point_at, State, step, start, Result, ended, counted, run, meet}
use Rattle.meeting.specs.Located.{Stacked, on, Aim, Stands, stack_depth, stack_room, top_edge, edge_of_top, top_point, leaf_point}
use Rattle.meeting.specs.Verdicts.{Meeting}
use Rattle.meeting.specs.Bridging.{Sound, potential, Stepped}
use Rattle.meeting.specs.Meets.{limit, Ready}

-- after k steps
pub data Reaches (S : Figure) (s : State S.Line) : ℕ → State S.Line → Type 0 where
  here : Reaches S s zero s
  further : {k : ℕ} {s' s'' : State S.Line} → Reaches S s k s' → step S s' ≡ some s'' → Reaches S s (suc k) s''

module _ {A : Type 0} where
  -- k more steps
  abbrev pub later : ℕ → Result A → Result A
  later k r = record { finished = r.finished; u = r.u; v = r.v; steps = k + r.steps }

  pub later_none : (r : Result A) → r ≡ later 0 r
  later_none r = ap (λ (n : ℕ). record { finished = r.finished; u = r.u; v = r.v; steps = n }) (omega arith)

  pub later_counted : (k : ℕ) (r : Result A) → later k (counted r) ≡ later (suc k) r
  unfolding counted
  later_counted k r = ap (λ (n : ℕ). record { finished = r.finished; u = r.u; v = r.v; steps = n }) (omega arith)

  pub later_ended : (k : ℕ) (s : State A) → later k (ended true s 1) ≡ ended true s (suc k)
  unfolding ended
  later_ended k s = ap (ended true s) (omega arith)

module _ (S : Figure) where
  pub run_some : (n : ℕ) (s s' : State S.Line) → step S s ≡ some s' → run S (suc n) s ≡ counted (run S n s')
  unfolding run
  run_some n s s' e = rw (e, run)

  pub run_none : (n : ℕ) (s : State S.Line) → step S s ≡ none → run S (suc n) s ≡ ended true s 1
  unfolding run
  run_none n s e = rw (e, run)

  pub run_reaches : {s s' : State S.Line} {k : ℕ} → Reaches S s k s' → (n m : ℕ) → m ≡ k + n → run S m s ≡ later k (run S n s')
  run_reaches {s} here n m e = let p : m ≡ n = omega arith in rw p (later_none (run S n s))
  run_reaches {s} (further {k = k} {s' = t} {s'' = t'} w q) n m e = run_reaches w (suc n) m (omega arith) ∙ ap (later k) (run_some n t t' q)
      ∙ later_counted k (run S n t')

-- What a half of a search that goes on in the tree t shows of its stack: no deeper than the tree is high, with room for an inner node; a top is an
-- inner node, the edge is the nearest line of its away child, and a leaf's p is its p.
pub record Kept {A : Type 0} (side : Side) (t : Tree A) (h : Half A) : Type 0 where
  pub depth : length h.stack ≤ height t
  pub room : (l r : Tree A) → h.at.tree ≡ node l r → length h.stack < height t
  pub top_inner : (top : Place A) (rest : List (Place A)) → h.stack ≡ top ∷ rest → (l : Tree A) × (r : Tree A) × (top.tree ≡ node l r)
  pub edge : h.at.edge ≡ top_edge side h.stack
  pub leaf_end : (x : A) → h.at.tree ≡ leaf x → point_at side (leaf x) h.at.edge ≡ top_point side h.stack

pub kept : {A : Type 0} {side : Side} {g : Aim A} {h : Half A} (t : Tree A) → Stands side g h → g.tall ≡ height t → Kept side t h
kept {A = A} {side = side} {g = g} t s e =
    record {
      depth = omega (arith, stack_depth s);
      room = λ l r p. omega (arith, stack_room l r s p);
      top_inner = λ top rest p. inner_by (rw p at s.stacked);
      edge = edge_of_top s;
      leaf_end = λ x p. leaf_point x s p;
    }
  where
    inner_by : {a : ℕ → A} {H lo : ℕ} {top : Place A} {rest : List (Place A)} → Stacked side a H (top ∷ rest) lo →
        (l : Tree A) × (r : Tree A) × (top.tree ≡ node l r)
    inner_by (on {l = l} {r = r} st p q z b) = (l, r, refl)

-- A search from the roots that is ready, after k steps.
pub record Underway {A : Type 0} (l r : Tree A) (k : ℕ) (s : State A) : Type 0 where
  pub within : k < limit l r
  pub kept_left : Kept left l s.u
  pub kept_right : Kept right r s.v
