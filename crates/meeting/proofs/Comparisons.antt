-- Theorems on specs/Comparisons.
use Rattle.std.specs.Prelude.{ℕ, zero, suc, ◌≡◌, refl, ◌↔◌, ◌⊎◌, T}
use Rattle.std.proofs.Common.{sym, ◌∙◌, ap, subst, inl, inr, ⊎_elim}
use Rattle.std.proofs.Math.Logic.{Iff.trans as iff_trans, ⊎_swap}
use Rattle.std.proofs.Math.Option.{some}
use Rattle.lists.specs.Bools.{or_exactly}
use Rattle.envelopes.specs.PseudoLines.{Figure, mirror}
use Rattle.envelopes.specs.Bridge.{Kind, inner, Local, OnOrAbove}
use Rattle.trees.specs.Tree.{Tree, node, first, last}
use Rattle.meeting.specs.Machine.{Side, left, right, away, toward, nearest, farthest, Place, point_at, crossing_point, local_at_most}
use Rattle.meeting.specs.Machine.{crossing_on_or_above, on_or_above}
use Rattle.meeting.specs.Located.{Spans, one, two, edge_of, kind, rank, farthest_at, nearest_at, Located}
use Rattle.meeting.specs.Comparisons.{Above, test_spans}

module _ (S : Figure) where
  -- the test of two located places
  pub test : (side : Side) {other : Side} {a c : ℕ → S.Line} {p q : Place S.Line} (s : Located side a p) (t : Located other c q) →
      T (on_or_above S side p q) ↔ (Above S) side a (rank s.spans) (Local c (rank t.spans) (kind q.tree))
  unfolding on_or_above
  test side s t = rw s.edged ((test_spans S) side s.spans t.spans)
