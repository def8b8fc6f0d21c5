-- `counter_columns::last_columns` meets its contract: what the last columns hold, where the ones before them are blank.
use Rattle.std.proofs.Common.{◌∙◌, sym, rules, eqb}
use Rattle.std.proofs.lemmas.Iterator.{YieldsList-from_slice}
use Rattle.std.proofs.lemmas.Iterator.Search.{all_from_yields_List}
use borrow.Author.Tests.{tests}
use Rattle.counter_columns.specs.Commands.{blank_read}
use Rattle.counter_columns.proofs.last_columns.Goals as goal

pub returns-then-all : goal.returns-then-all
returns-then-all c =
    blank_read _ _ c.requires
    (sym (all_from_yields_List (λ b. eqb b 32) _ _ _ c.all.ensures.ran (YieldsList-from_slice _ c.iter.ensures.rest) (λ x b q k. search (rules, tests))) ∙ c.if-all.true)
    c.read_field.ensures
