-- Where a search of two trees ends, and what it tells of the envelope of both sets of lines. `search-bridges` (Bridged) proves it of two envelopes
-- that face each other.
use Rattle.std.specs.Prelude.{◌≡◌, List, ◌∷◌, ◌++◌}
use Rattle.envelopes.specs.PseudoLines.{Figure}
use Rattle.envelopes.specs.Envelope.{Env}
use Rattle.trees.specs.Tree.{Tree, leaves}
use Rattle.meeting.specs.Machine.{meet}
use Rattle.meeting.specs.Meets.{Met, limit}

-- The pieces of two trees about the lines that their search ends at: those up to u and from v are the envelope of both sets.
pub record Bridged (S : Figure) (ls rs : List S.Line) (tl tr : Tree S.Line) : Type 0 where
  pub u : S.Line
  pub v : S.Line
  pub up_to : List S.Line
  pub beyond : List S.Line
  pub short : List S.Line
  pub from : List S.Line
  pub left_pieces : leaves tl ≡ up_to ++ u ∷ beyond
  pub right_pieces : leaves tr ≡ short ++ v ∷ from
  pub merged : Env S (ls ++ rs) (up_to ++ u ∷ v ∷ from)
  pub met : Met (limit tl tr) u v (meet S tl tr)
