-- `counter_reply::piece_lines` meets its contract: the invariant is the contract at the current piece.
use native.Mathlib.Omega.{arith}
use Rattle.counter_reply.specs.PieceLines.{pieces_more}
use Rattle.counter_reply.proofs.piece_lines.Goals as goal

pub loop-i-preserved : goal.loop-i-preserved
loop-i-preserved c =
    pieces_more (omega (arith, c.requires.0, c.loop-i-test.true)) c.loop-i.invariant c.piece_line.ensures c.piece_line.auto.out
