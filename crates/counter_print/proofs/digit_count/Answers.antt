-- `counter_print::digit_count` meets its contract: the powers that are no greater are counted.
use Rattle.std.proofs.Common.{rules, ◌≡◌, length}
use Rattle.std.specs.Prelude.{leb}
use Rattle.std.specs.List.{take_while}
use Rattle.std.proofs.lemmas.Iterator.{YieldsList-from_slice}
use Rattle.std.proofs.lemmas.Iterator.Consumers.{count_from_yields_List}
use Rattle.std.proofs.lemmas.Iterator.Search.{YieldsList-from_take_while}
use borrow.Author.Tests.{tests}
use Rattle.counter_print.specs.Places.{counts_powers}
use Rattle.counter_print.proofs.digit_count.Goals as goal

pub returns : goal.returns
returns c =
    let taken : c.count.result ≡ length (take_while (λ power. leb power c.args.number) c.args.powers.now) =
    count_from_yields_List c.take_while.result _ c.count.ensures.ran
    (YieldsList-from_take_while _ (λ power. leb power c.args.number) (YieldsList-from_slice c.args.powers.now cc) c.take_while.ensures.closure
    c.take_while.ensures.done (λ x b q k. search (rules, tests))) in
    rw (c.max.ensures, taken) (counts_powers _ _ c.requires.0 c.requires.1)
