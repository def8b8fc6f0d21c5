-- `replay::resume` meets its contract: by what the run has come to.
use Rattle.replay.specs.Resumed.{resumes_all, resumes_some}
use Rattle.replay.proofs.resume.Goals as goal

pub returns-then-calls-n : goal.returns-then-calls-n
returns-then-calls-n c = resumes_all c.run-n.ensures c.if-calls-n.true

pub returns-else-calls-n : goal.returns-else-calls-n
returns-else-calls-n c = resumes_some c.run-n.ensures c.if-calls-n.false
