-- `replay_call::do_take_back` meets its contract: what the call promises, and its answer written.
use mathlib.Core.Path.{refl}
use Rattle.history.specs.History.{taking_back}
use Rattle.replay_call.specs.Performing.{changes}
use Rattle.replay_call.proofs.do_take_back.Goals as goal

pub returns : goal.returns
returns c = changes c.args.out.now c.requires taking_back refl c.take_back-told.ensures c.tell_update.ensures
