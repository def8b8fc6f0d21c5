-- `check_offers::single` meets its contract.
use Rattle.check_offers.specs.OfferWalks.{walks_full, walks_leaf}
use Rattle.check_offers.proofs.single.Goals as goal

pub returns-then-at-ge-SECOND_HALF : goal.returns-then-at-ge-SECOND_HALF
returns-then-at-ge-SECOND_HALF c = λ h. walks_full h c.if-at-ge-SECOND_HALF.true

pub returns : goal.returns
returns c = λ h. walks_leaf h c.told-scratch c.if-at-ge-SECOND_HALF.false
