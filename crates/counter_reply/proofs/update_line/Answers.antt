-- `counter_reply::update_line` meets its contract: the line of either answer.
use Rattle.counter_reply.specs.Replies.{refused_line, live_line}
use borrow.Author.Rules.{rules}
use Rattle.counter_reply.proofs.update_line.Goals as goal

pub returns-in-Ok : goal.returns-in-Ok
returns-in-Ok c = rw (c.in-Ok.is, c.line.ensures.count) (live_line c.requires c.in-Ok.update.live (search rules depth 9))

pub returns-in-Err : goal.returns-in-Err
returns-in-Err c = rw (c.in-Err.is, c.line-in-Err.ensures.count) (refused_line c.requires _ (search rules depth 9))
