-- Theorems on specs/Verdicts.
use Rattle.std.specs.Prelude.{ℕ, ◌≤◌, ◌<◌, ◌≡◌, Bool, true, false, ◌↔◌, ◌⊎◌, T}
use Rattle.std.proofs.Math.Logic.{⊎_swap}
use Rattle.envelopes.specs.PseudoLines.{Figure}
use Rattle.envelopes.specs.Bridge.{Kind, leafy, Local, One, Two, Facts}
use Rattle.meeting.specs.Machine.{Side, left, right, opposite, Place, on_or_above, Case, mine, theirs, neither, case_of, compare}
use Rattle.meeting.specs.Located.{kind, rank, Located, Aim}
use Rattle.meeting.specs.Comparisons.{Above, above_left, above_right}
use Rattle.meeting.proofs.Comparisons.{test}
use Rattle.meeting.specs.Verdicts.{Meeting, Verdict, aim, verdict_by}

module _ {S : Figure} (M : Meeting S) where
  pub verdict : (side : Side) {p q : Place S.Line} (s : Located side ((aim M) side).line p) (t : Located (opposite side) ((aim M) (opposite side)).line q) →
      rank s.spans < ((aim M) side).count → rank t.spans < ((aim M) (opposite side)).count →
      (Verdict M) side (rank s.spans) (kind p.tree) (rank t.spans) (kind q.tree) (compare S side p q)
  unfolding compare
  verdict side {p} {q} s t b c = (verdict_by M) side _ (kind p.tree) _ (kind q.tree) b c (on_or_above S side p q) (on_or_above S (opposite side) q p)
      (test S side s t) (test S (opposite side) t s)
