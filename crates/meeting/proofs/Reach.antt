-- Theorems on specs/Reach.
use Prim.Native.Nat.{ℕ, zero, suc, ◌+◌, ◌*◌, ◌-◌, ◌≤◌, ◌<◌}
use Rattle.std.proofs.Common.{arith, ◌∙◌}
use Rattle.std.specs.Prelude.{◌≡◌, refl, List, ◌∷◌, length}
use Rattle.std.proofs.Math.Path.{ap}
use Rattle.std.proofs.Math.Bool.{true}
use Rattle.std.proofs.Math.Option.{none, some}
use Rattle.envelopes.specs.PseudoLines.{Figure}
use Rattle.trees.specs.Tree.{Tree, leaf, node, height}
use Rattle.meeting.specs.Machine.{Side, left, right, Place, Half, point_at, State, step, start, Result, ended, counted, run, meet}
use Rattle.meeting.specs.Located.{Stacked, on, Aim, Stands, stack_depth, stack_room, top_edge, edge_of_top, top_point, leaf_point}
use Rattle.meeting.specs.Verdicts.{Meeting}
use Rattle.meeting.specs.Bridging.{Sound, potential, Stepped}
use Rattle.meeting.proofs.Bridging.{step_sound}
use Rattle.meeting.specs.Meets.{limit, Ready}
use Rattle.meeting.specs.Reach.{Reaches, Underway, further, here, kept, later, later_ended, run_none, run_reaches}

module _ (S : Figure) where
  -- where the steps end, `meet` has counted them and one more
  pub reaches_end : {l r : Tree S.Line} {k : ℕ} {s : State S.Line} → Reaches S (start l r) k s → k < limit l r → step S s ≡ none →
      meet S l r ≡ ended true s (suc k)
  unfolding meet
  reaches_end {l} {r} {k} {s} w h e =
      let n : ℕ = 3 * (height l + height r) - k in
      (run_reaches S) w (suc n) (limit l r) (omega arith) ∙ ap (later k) ((run_none S) n s e) ∙ later_ended k s

  -- what is reached is sound, and each step was paid for
  pub reaches_sound : {M : Meeting S} {s s' : State S.Line} {k : ℕ} (i : Sound M left s.u s.v) → Reaches S s k s' →
      (j : Sound M left s'.u s'.v) × (potential j + k ≤ potential i)
  reaches_sound i here = (i, omega arith)
  reaches_sound {M = M} i (further {k = k} {s' = t} {s'' = t'} w q) =
      let (j, h) = reaches_sound i w in
      let b : Stepped M j (some t') = rw q at (step_sound M t j) in
      (b.0, omega (arith, b.1))

pub underway : (S : Figure) {M : Meeting S} {l r : Tree S.Line} {k : ℕ} {s : State S.Line} → Ready M l r → Reaches S (start l r) k s → Underway l r k s
underway S {l = l} {r = r} g w =
    let (j, h) = reaches_sound S g.sound w in
    record {
      within = omega (arith, g.afford);
      kept_left = kept l j.us g.tall_left;
      kept_right = kept r j.them g.tall_right;
    }
