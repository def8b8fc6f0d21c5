-- `check_memory::bring_back` meets its contract.
use Rattle.check_memory.specs.Trying.{back_in}
use Rattle.check_memory.proofs.bring_back.Goals as goal

pub returns : goal.returns
returns c = λ o n. back_in c.requires o n c.if-live-k.false c.if-room-lt1.false
