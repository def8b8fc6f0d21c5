-- Theorems on specs/Bridging.
use Prim.Native.Nat.{ℕ, zero, suc, ◌+◌, ◌*◌, ◌≤◌, ◌<◌}
use native.Mathlib.Omega.{arith}
use Rattle.std.specs.Prelude.{◌≡◌, refl, ◌&&◌, ◌⊎◌, List, [], ◌∷◌, length}
use Rattle.std.proofs.Common.{◌∙◌, ap}
use Rattle.std.proofs.Math.Bool.{true}
use Rattle.std.proofs.Math.Logic.{inl, inr, ⊎_elim, ⊎_swap}
use Rattle.std.proofs.Math.Option.{Option, none, some}
use Rattle.envelopes.specs.PseudoLines.{Figure}
use Rattle.envelopes.specs.Bridge.{Kind, inner}
use Rattle.trees.specs.Tree.{Tree, leaf, node}
use Rattle.meeting.specs.Machine.{Side, left, right, opposite, is_leaf, Place, Case, mine, theirs, neither, compare, Half, State, pair, pop}
use Rattle.meeting.specs.Machine.{second, recede_by, recede, advance_unless, step_by, step, Result, ended, counted, run}
use Rattle.meeting.specs.Located.{Spans, one, edge_of, Stacked, bottom, kind, rank, rank_before, spans_some, Top, top_located, Stands, located}
use Rattle.meeting.specs.Moves.{half, Inner, owes, Moved, retreat_moved}
use Rattle.meeting.proofs.Moves.{advance_moved, pop_moved}
use Rattle.meeting.specs.Verdicts.{Meeting, aim, Apart, Verdict}
use Rattle.meeting.proofs.Verdicts.{verdict}
use Rattle.meeting.specs.Bridging.{Better, Finds, Sound, Stepped, better, both, bottom_lo, found_by, leaf_hi, leaf_rank, only, potential, same_potential, short}

module _ {S : Figure} (M : Meeting S) where
  -- ours popped, for its line is not below its place; so the other's is
  popped : (side : Side) {t : Tree S.Line} {e : Option S.Line} {top : Place S.Line} {rest : List (Place S.Line)} {other : Half S.Line}
      (i : Sound M side (half t e (top ∷ rest)) other) → (aim M side).star < i.us.lo → (Better M) (potential i) (pair side (pop side top rest) other)
  unfolding potential
  popped side i below =
      let m = pop_moved (aim M side) i.us below in
      let h = ⊎_elim (λ z. absurd (omega arith)) (λ z. z) i.held in
      (better M) side (record { us = m.after; them = i.them; held = inr h }) _ (omega arith)

  -- the second comparison
  second_better : (side : Side) {l r : Tree S.Line} {e : Option S.Line} {top : Place S.Line} {rest : List (Place S.Line)}
      {other : Half S.Line} (i : Sound M side (half (node l r) e (top ∷ rest)) other) → (aim M side).star < rank i.us.spans → (c : Case) →
      Verdict M side i.us.lo inner (rank i.them.spans) (kind other.at.tree) c →
      (Better M) (potential i) (second S side c (half (node l r) e (top ∷ rest)) other top rest)
  second_better side i below mine v = popped side i v
  second_better side i below theirs v = (both M) side i (retreat_moved (aim M side) i.us below) (retreat_moved (aim M (opposite side)) i.them v) i.held
      (omega arith)
  second_better side {other = other} i below neither v = (both M) side i (retreat_moved (aim M side) i.us below)
      (advance_moved (aim M (opposite side)) i.them) ((short M) side other.at.tree i.them.spans i.them.covers v) (omega arith)

  top_verdict : (side : Side) {t : Tree S.Line} {e : Option S.Line} {top : Place S.Line} {rest : List (Place S.Line)} {other : Half S.Line}
      (i : Sound M side (half t e (top ∷ rest)) other) → Verdict M side i.us.lo inner (rank i.them.spans) (kind other.at.tree)
      (compare S side top other.at)
  top_verdict side {top = top} i =
      let p : Top side (aim M side).line i.us.lo top = top_located i.us.stacked in
      rw (p.ranked, p.is_inner) at (verdict M side p.place (located i.them) (omega (arith, p.ranked, spans_some i.us.spans, i.us.bounded))
      (omega (arith, rank_before i.them.spans, i.them.bounded)))

  recede_by_lem : (side : Side) (t : Tree S.Line) (e : Option S.Line) (stack : List (Place S.Line)) (other : Half S.Line)
      (i : Sound M side (half t e stack) other) → (aim M side).star < rank i.us.spans → (Better M) (potential i) (recede_by S side stack t (half t e stack) other)
  recede_by_lem side t e [] other i below = (only M) side i (retreat_moved (aim M side) i.us below) (omega (arith, (bottom_lo M) i.us.stacked))
  recede_by_lem side (leaf x) e (top ∷ rest) other i below = popped side i (omega (arith, (leaf_rank M) i.us.spans))
  recede_by_lem side (node l r) e (top ∷ rest) other i below = second_better side i below (compare S side top other.at) (top_verdict side i)

  recede_better : (side : Side) {ours other : Half S.Line} (i : Sound M side ours other) → (aim M side).star < rank i.us.spans →
      (Better M) (potential i) (recede S side ours other)
  unfolding recede
  recede_better side {ours} {other} i below = recede_by_lem side ours.at.tree ours.at.edge ours.stack other i below

  apart_step : (t t' : Tree S.Line) (e e' : Option S.Line) (st st' : List (Place S.Line)) (i : Sound M left (half t e st) (half t' e' st')) →
      Apart M left (rank i.us.spans) (kind t) (rank i.them.spans) (kind t') →
      (Stepped M) i (advance_unless S (is_leaf t && is_leaf t') (record { u = half t e st; v = half t' e' st' }))
  apart_step (leaf x) (leaf y) e e' st st' i v =
      let p : i.us.lo ≡ (aim M left).star = ⊎_elim (λ z. omega (arith, (leaf_rank M) i.us.spans, (leaf_hi M) i.us.spans)) (λ z. absurd z.0)
      ((short M) left (leaf y) i.them.spans i.them.covers v) in
      let q : rank i.us.spans ≡ (aim M left).star = (leaf_rank M) i.us.spans ∙ p in (
        (found_by M) left i.us.spans i.us.edged p,
        (found_by M) right i.them.spans i.them.edged
            (omega (arith, v.found refl q, (leaf_rank M) i.them.spans, (leaf_hi M) i.them.spans)),
      )
  apart_step (leaf x) (node l r) e e' st st' i v =
      (both M) left i (advance_moved (aim M left) i.us) (advance_moved (aim M right) i.them)
      (⊎_elim (λ z. inr (tt, v.found refl (omega (arith, (leaf_rank M) i.us.spans, (leaf_hi M) i.us.spans)))) (λ z. inr z)
      ((short M) left (node l r) i.them.spans i.them.covers v)) (omega arith)
  apart_step (node l r) t' e e' st st' i v = (both M) left i (advance_moved (aim M left) i.us) (advance_moved (aim M right) i.them)
      (⊎_elim (λ z. inl (tt, z)) (λ z. inr z) ((short M) left t' i.them.spans i.them.covers v)) (omega arith)

  step_by_lem : (s : State S.Line) (i : Sound M left s.u s.v) (c : Case) →
      Verdict M left (rank i.us.spans) (kind s.u.at.tree) (rank i.them.spans) (kind s.v.at.tree) c → (Stepped M) i (step_by S c s)
  step_by_lem s i mine v = recede_better left i v
  step_by_lem s i theirs v =
      let j : Sound M right s.v s.u = record { us = i.them; them = i.us; held = ⊎_swap i.held } in
      let (b, h) = recede_better right j v in
      (b, omega (arith, (same_potential M) i j refl refl))
  step_by_lem s i neither v = apart_step s.u.at.tree s.v.at.tree s.u.at.edge s.v.at.edge s.u.stack s.v.stack i v

  pub step_sound : (s : State S.Line) (i : Sound M left s.u s.v) → (Stepped M) i (step S s)
  unfolding step
  step_sound s i = step_by_lem s i (compare S left s.u.at s.v.at)
      (verdict M left (located i.us) (located i.them) (omega (arith, rank_before i.us.spans, i.us.bounded))
      (omega (arith, rank_before i.them.spans, i.them.bounded)))

  pub run_finds : (n : ℕ) (s : State S.Line) (i : Sound M left s.u s.v) → potential i < n → (Finds M) (suc (potential i)) (run S n s)
  unfolding run ended counted
  run_finds zero s i h = absurd (omega arith)
  run_finds (suc n) s i h = go (λ s' j. run_finds n s' j) (step S s) (step_sound s i)
    where
      go : ((s' : State S.Line) (j : Sound M left s'.u s'.v) → potential j < n → (Finds M) (suc (potential j)) (run S n s')) →
          (o : Option (State S.Line)) → (Stepped M) i o → (Finds M) (suc (potential i)) (elim o [ none ↦ ended true s 1 | some s' ↦ counted (run S n s') ])
      go again none w = record { finished = refl; found_left = w.0; found_right = w.1; steps = omega arith }
      go again (some s') (j, less) =
          let r = again s' j (omega arith) in
          record { finished = r.finished; found_left = r.found_left; found_right = r.found_right; steps = omega (arith, r.steps) }
