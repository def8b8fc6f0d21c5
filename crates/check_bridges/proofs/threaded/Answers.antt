-- `check_bridges::threaded` meets its contract.
use Rattle.std.proofs.Common.{rules, arith, tests}
use Rattle.std.proofs.lemmas.Fn.{always_returns_same}
use Rattle.check_trees.proofs.Scans.{adjacent_scan}
use Rattle.check_bridges.specs.StoredBridges.{linked, threads_by}
use Rattle.check_bridges.proofs.threaded.Goals as goal

pub returns : goal.returns
returns c =
    threads_by
    (adjacent_scan c.args.scratch.now c.args.from c.args.to (omega arith) (linked c.args.part.now) (λ k t. t) (λ k t. t)
    (c.is_sorted_by.ensures.cases (linked c.args.part.now) (always_returns_same _ _ _ (λ a r f k. search (rules, tests)))))
