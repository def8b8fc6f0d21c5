-- `counter_feed::finish` meets its contract: a last line is answered where there is one.
use Rattle.counter_feed.specs.Input.{finishes_none, finishes_line}
use borrow.Author.Rules.{rules}
use Rattle.counter_feed.proofs.finish.Goals as goal

pub returns : goal.returns
returns c = finishes_line c.if-line-eq0.false c.answer_kept.ensures
