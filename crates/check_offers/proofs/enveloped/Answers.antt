-- `check_offers::enveloped` meets its contract.
use Rattle.check_offers.specs.Envelops.{envelops_not, envelops_rest}
use Rattle.check_offers.proofs.enveloped.Goals as goal

pub returns-in_default : goal.returns-in_default
returns-in_default c = envelops_not c.in_default.ensures

pub returns : goal.returns
returns c = envelops_rest c.in-Some.ensures c.matches.ensures
