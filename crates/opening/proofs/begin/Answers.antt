-- `opening::begin` meets its contract: seven words written one after another.
use Rattle.opening.specs.Starting.{heading}
use Rattle.opening.proofs.begin.Goals as goal

pub returns : goal.returns
returns c = heading _ _ _ _ _ _ _ _ _ c.set_number.ensures c.set_number-2.ensures c.set_number-3.ensures
    c.set_number-4.ensures c.set_number-5.ensures c.set_number-6.ensures
    c.set_number-7.ensures
