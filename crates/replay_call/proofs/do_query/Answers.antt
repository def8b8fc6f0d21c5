-- `replay_call::do_query` meets its contract: what the call promises, and its answer written.
use mir.Facts.{to_z-of_z}
use Rattle.replay_call.specs.Performing.{asks}
use Rattle.replay_call.proofs.do_query.Goals as goal

pub returns : goal.returns
returns c = let a = c.args in let f = c.ranges in
    asks a.out.now c.requires a.load (simp (to_z-of_z, f.load) at c.query-told.ensures)
    c.tell_found.ensures
