-- `check_numbers::all_sought` meets its contract: each slot was found, or one was not.
use Rattle.std.proofs.Common.{ℕ, ◌∙◌, sym, true, false, rules, arith, tests}
use Rattle.std.specs.List.{between}
use Rattle.std.proofs.lemmas.Iterator.{YieldsList-from_slice, cases_from_all}
use Rattle.std.proofs.lemmas.Slice.{between_from_start}
use Rattle.check_trees.proofs.Scans.{each_scan}
use Rattle.check_numbers.specs.Seeking.{Seeks, seeks_all}
use Rattle.check_numbers.proofs.all_sought.Goals as goal

pub returns : goal.returns
returns c =
    let xs = c.args.scratch.now in
    let Yes : ℕ → Type 0 = λ s. Seeks c.args.part.now c.args.root s true in
    let No : ℕ → Type 0 = λ s. Seeks c.args.part.now c.args.root s false in
    seeks_all c.all.result
    (each_scan xs 0 c.args.n (omega arith) Yes No c.all.result
    (cases_from_all _ _ _ Yes No c.all.ensures.ran (YieldsList-from_slice (between 0 c.args.n xs) (c.iter.ensures.rest ∙ sym (between_from_start xs c.args.n)))
    (λ x q k. search (rules, tests)) (λ x q k. search (rules, tests))))
