-- `replay_call::do_post` meets its contract: what the call promises, and its answer written.
use mir.Facts.{to_z-of_z}
use mathlib.Core.Path.{refl}
use Rattle.replay_call.specs.Performing.{changes}
use Rattle.history.specs.History.{posting}
use Rattle.replay_call.proofs.do_post.Goals as goal

pub returns : goal.returns
returns c = let a = c.args in let f = c.ranges in changes a.out.now c.requires (posting a.number a.rate a.base) refl
    (simp (to_z-of_z, f.number, f.rate, f.base) at c.post-told.ensures) c.tell_update.ensures
