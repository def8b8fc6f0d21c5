-- `update::insert` meets its contract.
use Rattle.table.specs.Fields.{most_levels}
use Rattle.update.specs.Inserting.{inserted}
use Rattle.std.proofs.Common.{arith}
use Rattle.update.proofs.insert.Goals as goal

pub returns : goal.returns
returns c = inserted {limit = most_levels} (omega arith) c.insert_below.ensures
