-- `check_merge::stays` meets its contract.
use Rattle.check_merge.specs.Rests.{stays_not}
use Rattle.check_merge.proofs.stays.Goals as goal

pub returns-then-not-rest_tells : goal.returns-then-not-rest_tells
returns-then-not-rest_tells c = stays_not c.rest-q.ensures c.rest_tells.ensures c.if-not-rest_tells.true
