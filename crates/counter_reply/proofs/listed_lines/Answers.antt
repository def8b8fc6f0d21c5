-- `counter_reply::listed_lines` meets its contract: the pieces' lines, and behind them the listing's own.
use native.Mathlib.Omega.{arith}
use Rattle.counter_reply.specs.Replies.{refused_line}
use Rattle.counter_reply.specs.PieceLines.{listed_line}
use borrow.Author.Rules.{rules}
use Rattle.counter_reply.proofs.listed_lines.Goals as goal

pub returns-in-Ok : goal.returns-in-Ok
returns-in-Ok c =
    rw (c.in-Ok.is, c.line.ensures.count)
    (listed_line c.in-Ok.count c.args.pieces.now c.requires.1 c.requires.0 c.piece_count-n.result (search rules depth 9)
    c.piece_lines.ensures (search rules depth 9))

pub returns-in-Err : goal.returns-in-Err
returns-in-Err c = rw (c.in-Err.is, c.line-in-Err.ensures.count) (refused_line (omega (arith, c.requires.0)) _ (search rules depth 9))
