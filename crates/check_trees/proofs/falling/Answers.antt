-- `check_trees::falling` meets its contract.
use Rattle.std.proofs.Common.{Bool, ℕ, rules, arith, tests}
use Rattle.std.specs.Int.Signed.{lt_z}
use Rattle.table.specs.Layout.{cell}
use Rattle.std.proofs.lemmas.Fn.{always_returns_same}
use Rattle.check_trees.proofs.Scans.{adjacent_scan}
use Rattle.check_trees.proofs.falling.Goals as goal

pub returns : goal.returns
returns c =
    let p : ℕ → ℕ → Bool = λ x y. lt_z (cell c.args.part.now c.args.field y) (cell c.args.part.now c.args.field x) in
    adjacent_scan c.args.scratch.now c.args.from c.args.to (omega arith) p (λ k t. record { falls = t }) (λ k h. h.falls)
    (c.is_sorted_by.ensures.cases p (always_returns_same _ _ _ (λ a r f k. search (rules, tests))))
