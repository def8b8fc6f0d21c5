-- `update::remove` meets its contract.
use Rattle.table.specs.Fields.{most_levels}
use Rattle.update.specs.Removing.{removed}
use Rattle.std.proofs.Common.{arith}
use Rattle.update.proofs.remove.Goals as goal

pub returns : goal.returns
returns c = removed {limit = most_levels} (omega arith) c.remove_below.ensures
