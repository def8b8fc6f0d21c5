-- `counter_reply::piece_count` meets its contract.
use Rattle.table.specs.Words.{up_to_most}
use Rattle.counter_reply.proofs.piece_count.Goals as goal

pub returns-clause-few : goal.returns-clause-few
returns-clause-few c = rw c.up_to.ensures (up_to_most 64 _)
