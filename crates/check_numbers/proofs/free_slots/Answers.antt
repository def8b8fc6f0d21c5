-- `check_numbers::free_slots` meets its contract.
use Rattle.check_numbers.specs.FreeChains.{freely_told, freely_chained}
use Rattle.check_numbers.proofs.free_slots.Goals as goal

pub returns-then-not-tells : goal.returns-then-not-tells
returns-then-not-tells c = freely_told c.capacity-c.ensures c.if-c-n.false c.number_at-first.ensures c.tells.ensures
    c.if-not-tells.true

pub returns : goal.returns
returns c = freely_chained c.capacity-c.ensures c.if-c-n.false c.number_at-first.ensures c.tells.ensures
    c.if-not-tells.false c.chained.ensures
