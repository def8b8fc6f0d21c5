-- Theorems on specs/Moves.
use Rattle.std.specs.Prelude.{ℕ, zero, suc, ◌+◌, ◌≤◌, ◌<◌, ◌≡◌, List, [], ◌∷◌, length}
use native.Mathlib.Omega.{arith}
use Rattle.std.proofs.Math.Decide.{dec_le}
use Rattle.std.proofs.Math.Logic.{ite, if_neg}
use Rattle.std.proofs.Math.Option.{Option, none}
use Rattle.trees.specs.Tree.{Tree, leaf, node, height}
use Rattle.meeting.specs.Machine.{Side, away, toward, Place, Half, advance, retreat, pop}
use Rattle.meeting.specs.Located.{Spans, one, two, edge_of, Stacked, bottom, on, rank, spans_some, height_away, height_toward, nearest_edge, Aim, Stands}
use Rattle.meeting.specs.Moves.{Inner, Moved, advance_by, half, pop_by}

module _ {A : Type 0} {side : Side} (g : Aim A) where
  pub advance_moved : {h : Half A} (s : Stands side g h) → Moved s 0 1 (Inner h.at.tree × (rank s.spans ≤ g.star)) (advance side h)
  advance_moved {h} s = (advance_by g) h.at.tree h.at.edge h.stack s.stacked s.spans s.edged s.shallow s.bounded s.covers

  pub pop_moved : {t : Tree A} {e : Option A} {top : Place A} {rest : List (Place A)} (s : Stands side g (half t e (top ∷ rest))) → g.star < s.lo →
      Moved s 1 0 ⊥ (pop side top rest)
  pop_moved {t} {e} {top} {rest} s below = (pop_by g) t e top rest s.stacked s.spans s.edged s.shallow s.bounded s.covers below
