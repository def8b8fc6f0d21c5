-- `replay_call::do_listing` meets its contract: what the call promises on the output lent to it, and its answer written.
use mathlib.Core.Path.{refl}
use Rattle.replay_call.specs.Performing.{lists}
use Rattle.replay_call.proofs.do_listing.Goals as goal

pub returns : goal.returns
returns c = let a = c.args in lists a.out.now a.room c.requires c.listing-told.ensures refl c.tell_count.ensures
