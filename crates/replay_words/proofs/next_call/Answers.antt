-- `replay_words::next_call` meets its contract: by the words' count.
use borrow.Author.Rules.{rules}
use Rattle.replay_words.specs.Decoding.{four}
use Rattle.replay_words.proofs.next_call.Goals as goal

pub returns-in-len4-up : goal.returns-in-len4-up
returns-in-len4-up c = four c.args.calls.now c.in-len4-up.len_at_least (search rules depth 9)
