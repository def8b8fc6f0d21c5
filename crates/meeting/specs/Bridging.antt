-- The search finds the bridge, within 3 × (hl + hr) + 1 steps (docs/REQUIREMENTS.md, 6.6; its source [1], Lemmas 4.2 to 4.4).
use Prim.Native.Nat.{ℕ, zero, suc, ◌+◌, ◌*◌, ◌≤◌, ◌<◌}
use native.Mathlib.Omega.{arith}
use Rattle.std.specs.Prelude.{◌≡◌, refl, ◌&&◌, ◌⊎◌, List, [], ◌∷◌, length}
use Rattle.std.proofs.Common.{◌∙◌, ap}
use Rattle.std.proofs.Math.Bool.{true}
use Rattle.std.proofs.Math.Logic.{inl, inr, ⊎_elim, ⊎_swap}
use Rattle.std.proofs.Math.Option.{Option, none, some}
use Rattle.envelopes.specs.PseudoLines.{Figure}
use Rattle.envelopes.specs.Bridge.{Kind, inner}
use Rattle.trees.specs.Tree.{Tree, leaf, node}
use Rattle.meeting.specs.Machine.{Side, left, right, opposite, is_leaf, Place, Case, mine, theirs, neither, compare, Half, State, pair, pop}
use Rattle.meeting.specs.Machine.{second, recede_by, recede, advance_unless, step_by, step, Result, ended, counted, run}
use Rattle.meeting.specs.Located.{Spans, one, edge_of, Stacked, bottom, kind, rank, rank_before, spans_some, Top, top_located, Stands, located}
use Rattle.meeting.specs.Moves.{half, Inner, owes, Moved, retreat_moved}
use Rattle.meeting.specs.Verdicts.{Meeting, aim, Apart, Verdict}

-- The invariant: both halves stand well, and one of the two lines looked for is below its place (source [1], Invariant 4.1).
pub record Sound {S : Figure} (M : Meeting S) (side : Side) (ours other : Half S.Line) : Type 0 where
  pub us : Stands side (aim M side) ours
  pub them : Stands (opposite side) (aim M (opposite side)) other
  pub held : (us.lo ≤ (aim M side).star) ⊎ (them.lo ≤ (aim M (opposite side)).star)

module _ {S : Figure} {M : Meeting S} where
  -- what is left to pay: three for each edge still to be found, one for each stacked node
  unfoldable pub potential : {side : Side} {ours other : Half S.Line} → Sound M side ours other → ℕ
  potential {ours = ours} {other = other} i = 3 * (owes i.us + owes i.them) + (length ours.stack + length other.stack)

module _ {S : Figure} (M : Meeting S) where
  -- a state in which less is left to pay
  abbrev pub Better : ℕ → State S.Line → Type 0
  Better k s = (i : Sound M left s.u s.v) × (potential i < k)

  pub better : (side : Side) {ours other : Half S.Line} (i : Sound M side ours other) (k : ℕ) → potential i < k → Better k (pair side ours other)
  unfolding potential
  better left i k h = (i, h)
  better right i k h = (record { us = i.them; them = i.us; held = ⊎_swap i.held }, omega arith)

  -- what is left to pay is the same from either side
  pub same_potential : {u v : Half S.Line} (i : Sound M left u v) (j : Sound M right v u) → i.us ≡ j.them → i.them ≡ j.us → potential i ≡ potential j
  unfolding potential
  same_potential i j p q = rw (p, q) (omega arith)

  -- ---- case 1 on the left, case 2 on the right

  -- both halves moved
  pub both : (side : Side) {ours other ours' other' : Half S.Line} (i : Sound M side ours other) {a b c d : ℕ} {won won' : Type 0}
      (m : Moved i.us a b won ours') (n : Moved i.them c d won' other') → won ⊎ won' → b + d < 3 + (a + c) → Better (potential i) (pair side ours' other')
  unfolding potential
  both side i m n (inl w) h = better side (record { us = m.after; them = n.after; held = inl (m.inside w) }) _ (omega (arith, m.less w))
  both side i m n (inr w) h = better side (record { us = m.after; them = n.after; held = inr (n.inside w) }) _ (omega (arith, n.less w))

  -- only ours moved, and won
  pub only : (side : Side) {ours other ours' : Half S.Line} (i : Sound M side ours other) {won : Type 0} (m : Moved i.us 0 0 won ours') → won →
      Better (potential i) (pair side ours' other)
  unfolding potential
  only side i m w = better side (record { us = m.after; them = i.them; held = inl (m.inside w) }) _ (omega (arith, m.less w))

  pub bottom_lo : {side : Side} {a : ℕ → S.Line} {H lo : ℕ} → Stacked side a H [] lo → lo ≡ 0
  bottom_lo bottom = refl

  pub leaf_rank : {side : Side} {a : ℕ → S.Line} {x : S.Line} {lo hi : ℕ} (s : Spans side a lo (leaf x) hi) → rank s ≡ lo
  leaf_rank (one p) = refl

  pub leaf_hi : {side : Side} {a : ℕ → S.Line} {x : S.Line} {lo hi : ℕ} (s : Spans side a lo (leaf x) hi) → hi ≡ suc lo
  leaf_hi (one p) = refl

  -- neither on or above, of a place and of one that covers its line: the first's point is short of its line, or the second is inner and short of its own
  pub short : (side : Side) {i : ℕ} {k : Kind} (q : Tree S.Line) {lo hi : ℕ} (s : Spans (opposite side) (aim M (opposite side)).line lo q hi) →
      (aim M (opposite side)).star < hi → Apart M side i k (rank s) (kind q) → (i ≤ (aim M side).star) ⊎ (Inner q × (rank s ≤ (aim M (opposite side)).star))
  short side (node l r) s c v = ⊎_elim (λ z. inl z) (λ z. inr (tt, z)) v.short
  short side (leaf x) s c v = ⊎_elim (λ z. inl z) (λ z. inl (v.other refl (omega (arith, leaf_rank s, leaf_hi s)))) v.short

  -- ---- case 3, and the step

  -- the search has ended at the bridge
  pub record Found (side : Side) (p : Place S.Line) : Type 0 where
    pub line : p.tree ≡ leaf ((aim M side).line (aim M side).star)
    pub edge : p.edge ≡ edge_of (aim M side).line (aim M side).star

  pub found_by : (side : Side) {x : S.Line} {e : Option S.Line} {lo hi : ℕ} → Spans side (aim M side).line lo (leaf x) hi →
      e ≡ edge_of (aim M side).line lo → lo ≡ (aim M side).star → Found side (record { tree = leaf x; edge = e })
  found_by side (one p) q r = record { line = ap leaf (p ∙ ap (aim M side).line r); edge = q ∙ ap (edge_of (aim M side).line) r }

  -- what a step does: it ends at the bridge, or less is left to pay
  abbrev pub Stepped : {u v : Half S.Line} → Sound M left u v → Option (State S.Line) → Type 0
  Stepped {u} {v} i none = Found left u.at × Found right v.at
  Stepped i (some s) = Better (potential i) s

  -- ---- the run

  pub record Finds (limit : ℕ) (r : Result S.Line) : Type 0 where
    pub finished : r.finished ≡ true
    pub found_left : Found left r.u
    pub found_right : Found right r.v
    pub steps : r.steps ≤ limit
