-- `counter_reply::piece_lines` meets its contract: the invariant is the contract at the current piece.
use Rattle.counter_reply.specs.PieceLines.{PiecesTo}
use Rattle.counter_reply.proofs.piece_lines.Given as goal

abbrev pub invariant-loop-i : goal.invariant-loop-i
invariant-loop-i l = PiecesTo l.pieces l.initial.out l.out l.i
