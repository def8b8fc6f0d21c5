-- `update::insert_beside` meets its contract.
use Rattle.update.specs.CodeUpdates.{inserted_front, inserted_back}
use Rattle.update.proofs.insert_beside.Goals as goal

pub returns-then-at_most : goal.returns-then-at_most
returns-then-at_most c = λ limit single. inserted_back c.at_most.ensures c.if-at_most.true single
    c.raise.ensures

pub returns : goal.returns
returns c = λ limit single. inserted_front c.at_most.ensures c.if-at_most.false single
    c.raise-2.ensures
