-- `search::meet` meets its contract. The loop's invariant: the state stands for the machine's after as many steps.
use native.Mathlib.Omega.{arith}
use borrow.Author.Rules.{rules}
use Rattle.search.specs.Runs.{Going, going_start, going_on, going_done, going_over}
use Rattle.search.proofs.meet.Goals as goal

pub loop-before-init : goal.loop-before-init
loop-before-init c = going_start c.start-s.ensures

pub returns-then-s : goal.returns-then-s
returns-then-s c = going_done c.loop-before.invariant c.step-s.ensures c.if-s.true (omega arith)

pub loop-before-preserved : goal.loop-before-preserved
loop-before-preserved c = going_on c.loop-before.invariant c.step-s.ensures c.if-s.false
