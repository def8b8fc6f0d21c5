use Rattle.std.proofs.Common.{◌≡◌, suc, ◌≤◌, ltb, ℕ, ◌+◌, ◌-◌, ◌*◌, ◌<◌, length}
use Rattle.table.specs.Fields.{most_nodes}
use Rattle.table.specs.Layout.{cap}
use Rattle.shape.specs.Sides.{row_on, double_on, rotate_on, balance_on}
use Rattle.nodes.specs.Joining.{Joined}
use Rattle.shape.specs.Rows.{Rowed}
use Rattle.shape.specs.Splices.{Spliced}
use Rattle.shape.specs.JoinSteps.{Merged}
use Rattle.shape.proofs.+splice.Given as goal

-- proposed from what the function passes where it calls itself
abbrev pub decreases-splice : goal.decreases-splice
decreases-splice l = l.limit
