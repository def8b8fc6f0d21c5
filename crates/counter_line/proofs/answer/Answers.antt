-- `counter_line::answer` meets its contract, command by command.
use mir.Facts.{to_z-of_z}
use mir.Syntax.{w64}
use Rattle.std.proofs.Common.{FitsSigned}
use Rattle.counter_line.specs.Answering.{command_is, posted, withdrawn, asked, listed_all, unread}
use borrow.Author.Rules.{rules}
use Rattle.counter_line.proofs.answer.Goals as goal

pub returns-in-Post : goal.returns-in-Post
returns-in-Post c = let f : FitsSigned w64 c.in-Post.number = search rules in
    let g : FitsSigned w64 c.in-Post.rate = search rules in
    let h : FitsSigned w64 c.in-Post.base = search rules in
    posted c.if-out-lt-MOST.false _ _ _ (command_is c.in-Some.ensures c.in-Post.is)
    (simp (to_z-of_z, f, g, h) at c.post-told.ensures) (simp (to_z-of_z, f) at c.update_line.ensures)

pub returns-in-Withdraw : goal.returns-in-Withdraw
returns-in-Withdraw c = let f : FitsSigned w64 c.in-Withdraw.number = search rules in
    withdrawn c.if-out-lt-MOST.false _ (command_is c.in-Some.ensures c.in-Withdraw.is)
    (simp (to_z-of_z, f) at c.withdraw-told.ensures) (simp (to_z-of_z, f) at c.update_line-in-Withdraw.ensures)

pub returns-in-Query : goal.returns-in-Query
returns-in-Query c = let f : FitsSigned w64 c.in-Query.load = search rules in
    asked c.if-out-lt-MOST.false _ (command_is c.in-Some.ensures c.in-Query.is)
    (simp (to_z-of_z, f) at c.query-told.ensures) c.found_line.ensures

pub returns-in-List : goal.returns-in-List
returns-in-List c = listed_all c.if-out-lt-MOST.false (command_is c.in-Some.ensures c.in-List.is) c.list.ensures

pub returns-in_default : goal.returns-in_default
returns-in_default c = unread c.if-out-lt-MOST.false c.in_default.ensures c.answer_line.ensures
