-- `counter_reply::found_line` meets its contract: the line of either answer.
use Rattle.counter_reply.specs.Replies.{refused_line, found_line}
use borrow.Author.Rules.{rules}
use Rattle.counter_reply.proofs.found_line.Goals as goal

pub returns-in-Ok : goal.returns-in-Ok
returns-in-Ok c = let f = c.in-Ok.found in
    rw (c.in-Ok.is, c.line.ensures.count) (found_line c.requires f.number f.price f.second (search rules depth 9))

pub returns-in-Err : goal.returns-in-Err
returns-in-Err c = rw (c.in-Err.is, c.line-in-Err.ensures.count) (refused_line c.requires _ (search rules depth 9))
