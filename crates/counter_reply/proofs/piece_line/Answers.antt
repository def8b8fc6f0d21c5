-- `counter_reply::piece_line` meets its contract: the line fills the part behind the lines before it.
use borrow.Author.Rules.{rules}
use Rattle.counter_reply.specs.PieceLines.{piece_line}
use Rattle.counter_reply.proofs.piece_line.Goals as goal

pub returns : goal.returns
returns c =
    piece_line c.requires.0 c.word_at-number.ensures c.word_at-numerator.ensures c.word_at-denominator.ensures (search rules depth 9)
