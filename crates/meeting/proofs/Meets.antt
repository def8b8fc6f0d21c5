-- Theorems on specs/Meets.
use Rattle.std.specs.Prelude.{ℕ, suc, ◌+◌, ◌*◌, ◌-◌, ◌≤◌, ◌<◌, ◌≡◌, true, [], length, get_or}
use Rattle.std.proofs.Common.{arith, sym, ◌∙◌, ap, length-append, get_or-append-add}
use Rattle.std.proofs.Math.Path.{refl}
use Rattle.std.proofs.Math.Logic.{inl}
use Rattle.std.proofs.Math.Option.{none}
use Rattle.std.proofs.Math.ListN.{get_or-append}
use Rattle.envelopes.specs.PseudoLines.{Figure, PseudoLines}
use Rattle.envelopes.specs.Bridge.{Facing, Bridge}
use Rattle.envelopes.proofs.Search.{facts}
use Rattle.trees.specs.Tree.{Tree, leaf, node, height, leaves}
use Rattle.meeting.specs.Machine.{Side, left, right, away, toward, start, meet, Result}
use Rattle.meeting.specs.Located.{Spans, one, two, bottom, Aim, Stands}
use Rattle.meeting.specs.Moves.{half, owes_root}
use Rattle.meeting.specs.Verdicts.{Meeting, FactsOf}
use Rattle.meeting.specs.Bridging.{Sound, potential}
use Rattle.meeting.proofs.Bridging.{run_finds}
use Rattle.meeting.specs.Meets.{BridgeOf, FacingTrees, Met, five, limit, line_from, ready_by, sides, spans_tree}

-- From the five facts alone.
module _ (S : Figure) (l r : Tree S.Line) (a : ℕ → S.Line) (m : ℕ) (c : ℕ → S.Line) (n i j : ℕ) where
  pub meets_by : Spans left a 0 l m → Spans right c 0 r n → i < m → j < n → FactsOf S a m c n i j → Met (limit l r) (a i) (c j) (meet S l r)
  unfolding meet
  meets_by p q h k f =
      let g = (ready_by S l r a m c n i j) p q h k f in
      let z = run_finds (sides S l r a m c n i j f) (limit l r) (start l r) g.sound g.afford in
      record { finished = z.finished; at_left = z.found_left.line; at_right = z.found_right.line; steps = omega (arith, z.steps, g.afford) }

-- The search finds their bridge.
module _ (S : Figure) (L : PseudoLines S) (l r : Tree S.Line) (d : S.Line) (i j : ℕ) (F : FacingTrees S l r d) (B : BridgeOf S l r d i j) where
  pub meets : Met (limit l r) (line_from left l d i) (line_from right r d j) (meet S l r)
  meets = meets_by S l r _ _ _ _ i j (spans_tree left l d) (spans_tree right r d) B.on_left.inside B.on_right.inside (five S L l r d i j F B)
