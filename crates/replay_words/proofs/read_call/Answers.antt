-- `replay_words::read_call` meets its contract: by its tests.
use borrow.Author.Rules.{rules}
use Rattle.replay_words.proofs.read_call.Goals as goal

pub returns-in-1 : goal.returns-in-1
returns-in-1 c = search rules depth 9

pub returns-in-6 : goal.returns-in-6
returns-in-6 c = search rules depth 9

pub returns-in_default : goal.returns-in_default
returns-in_default c = search rules depth 9

pub returns-in_default-2 : goal.returns-in_default-2
returns-in_default-2 c = search rules depth 9
