-- `replay_call::do_withdraw` meets its contract: what the call promises, and its answer written.
use mir.Facts.{to_z-of_z}
use mathlib.Core.Path.{refl}
use Rattle.replay_call.specs.Performing.{changes}
use Rattle.history.specs.History.{withdrawing}
use Rattle.replay_call.proofs.do_withdraw.Goals as goal

pub returns : goal.returns
returns c = let a = c.args in let f = c.ranges in changes a.out.now c.requires (withdrawing a.number) refl
    (simp (to_z-of_z, f.number) at c.withdraw-told.ensures) c.tell_update.ensures
