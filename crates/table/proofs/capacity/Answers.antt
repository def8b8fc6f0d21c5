-- `table::capacity` meets its contract: by its one test.
use Rattle.table.specs.Layout.{cap_cut, cap_whole}
use borrow.Author.Rules.{rules}
use Rattle.table.proofs.capacity.Goals as goal

pub returns-then-part-told : goal.returns-then-part-told
returns-then-part-told c = cap_cut _ _ c.number_at-told.ensures c.if-part-told.true

pub returns : goal.returns
returns c = cap_whole _ _ c.number_at-told.ensures c.if-part-told.false
