-- `check_numbers::numbers` meets its contract.
use Rattle.check_numbers.specs.Numberings.{tallies_told, tallies_none, tallies_tree}
use Rattle.check_numbers.proofs.numbers.Goals as goal

pub returns-then-not-tells : goal.returns-then-not-tells
returns-then-not-tells c = tallies_told c.number_at-root.ensures c.tells.ensures c.if-not-tells.true

pub returns-then-root-eq0 : goal.returns-then-root-eq0
returns-then-root-eq0 c = tallies_none c.number_at-root.ensures c.tells.ensures c.if-not-tells.false c.if-root-eq0.true

pub returns : goal.returns
returns c = tallies_tree c.number_at-root.ensures c.tells.ensures c.if-not-tells.false c.if-root-eq0.false c.number_tree.ensures
