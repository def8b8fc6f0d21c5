-- `replay_call::do_report` meets its contract: what the call promises on the output lent to it, and its answer written.
use mathlib.Core.Path.{refl}
use mir.Facts.{to_z-of_z}
use Rattle.replay_call.specs.Performing.{reports}
use Rattle.replay_call.proofs.do_report.Goals as goal

pub returns : goal.returns
returns c = let a = c.args in
    let f = c.ranges in
    reports a.out.now a.room c.requires a.load a.price (simp (to_z-of_z, f.load, f.price) at c.report-told.ensures) refl
    c.tell_count.ensures
