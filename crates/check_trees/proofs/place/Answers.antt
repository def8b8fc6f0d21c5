-- `check_trees::place` meets its contract.
use Rattle.std.proofs.Common.{rules, arith}
use Rattle.std.proofs.iter.runs.Made.{chains}
use Rattle.check_trees.proofs.Scans.{place_none, place_some}
use Rattle.check_trees.proofs.place.Goals as goal

pub returns-in_err-k : goal.returns-in_err-k
returns-in_err-k c =
    rw c.from_residual.ensures (place_none c.args.scratch.now c.args.from c.args.to (omega arith) (search (rules, chains)))

pub returns : goal.returns
returns c = place_some c.args.scratch.now c.args.from c.args.to (omega arith) (search (rules, chains))
