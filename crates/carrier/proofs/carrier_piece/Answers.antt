-- `carrier::carrier_piece` meets its contract: the short output first, then the step and its answer.
use Rattle.std.proofs.Common.{arith, FitsSigned}
use mir.Syntax.{w64}
use mir.Facts.{to_z-of_z}
use Rattle.answers.specs.Promises.{Step}
use Rattle.answers.proofs.Answers.{pieced_long}
use Rattle.carrier.proofs.carrier_piece.Goals as goal

pub returns : goal.returns
returns c =
    let q = c.place_after-next in
    let a = c.piece_at in
    let t = c.tell_piece in
    let r : FitsSigned w64 t.result = record { sfits = t.type_inv } in
    let k : Step = record { handed = a.result; next = q.result } in
    simp (to_z-of_z, r)
    (pieced_long _ _ c.args.place (simp (to_z-of_z, c.ranges.place) at c.up_to-at.ensures) c.if-piece-lt3.false k (record {
      small = omega (arith, q.type_inv);
      hands = a.ensures;
      moves = q.ensures;
    }) t.ensures)
