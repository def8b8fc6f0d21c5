-- `check_memory::take_out` meets its contract.
use Rattle.check_memory.specs.Trying.{out_live}
use Rattle.check_memory.proofs.take_out.Goals as goal

pub returns : goal.returns
returns c = out_live c.requires c.if-not-live-k.false
