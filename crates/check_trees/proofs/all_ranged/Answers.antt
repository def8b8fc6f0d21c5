-- `check_trees::all_ranged` meets its contract.
use Rattle.std.proofs.Common.{Bool, ℕ, rules, arith, tests}
use Rattle.std.specs.List.{between}
use Rattle.std.proofs.lemmas.Iterator.{YieldsList-from_slice}
use Rattle.std.proofs.lemmas.Iterator.Search.{all_from_yields_List}
use Rattle.offers.specs.Offers.{offer_in_range}
use Rattle.check_trees.specs.Laid.{item_at}
use Rattle.check_trees.proofs.Scans.{all_scan}
use Rattle.check_trees.proofs.all_ranged.Goals as goal

pub returns : goal.returns
returns c =
    let p : ℕ → Bool = λ s. offer_in_range (item_at c.args.part.now s).offer in
    all_scan c.args.scratch.now c.args.from c.args.to (omega arith) p (λ k t. record { ranged = t }) (λ k h. h.ranged)
    (all_from_yields_List p _ _ _ c.all.ensures.ran (YieldsList-from_slice (between c.args.from c.args.to c.args.scratch.now) cc)
    (λ x b q k. search (rules, tests)))
