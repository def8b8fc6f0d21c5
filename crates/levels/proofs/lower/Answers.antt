-- `levels::lower` meets its contract.
use Rattle.descents.specs.Cuts.{still_known}
use Rattle.levels.specs.Lowering.{lowered}
use mir.Facts.{to_z-of_z}
use mir.Syntax.{w64}
use Rattle.std.proofs.Common.{FitsSigned}
use Rattle.levels.proofs.lower.Goals as goal

pub rest_in-ql-requires : goal.rest_in-ql-requires
rest_in-ql-requires c = still_known c.capacity-k.ensures c.cut_in-front.ensures.within

pub rest_in-qr-requires : goal.rest_in-qr-requires
rest_in-qr-requires c = still_known c.capacity-k.ensures c.cut_in-front.ensures.within

pub put_behind-le-requires : goal.put_behind-le-requires
put_behind-le-requires c = still_known c.capacity-k.ensures c.cut_in-front.ensures.within

pub put_in_front-re-requires : goal.put_in_front-re-requires
put_in_front-re-requires c = still_known (still_known c.capacity-k.ensures c.cut_in-front.ensures.within) c.put_behind-le.ensures.within

pub returns : goal.returns
returns c = let f : FitsSigned w64 c.get_in-rate.result = record { sfits = c.get_in-rate.type_inv } in
    lowered c.child_in-l.ensures c.child_in-r.ensures c.inner_slot-m.ensures c.get_in-rate.ensures
    (simp (to_z-of_z, f) at c.cut_in-front.ensures) c.rest_in-ql.ensures c.rest_in-qr.ensures c.put_behind-le.ensures
    c.put_in_front-re.ensures
