-- `replay::replay` meets its contract: by the opening, and then the run.
use mir.Facts.{to_z-of_z}
use Rattle.replay.specs.Resumed.{replays_opened}
use Rattle.replay.proofs.replay.Goals as goal

pub returns : goal.returns
returns c = replays_opened (simp (to_z-of_z, c.ranges.capacity) at c.open.ensures) c.in_ok-open.was c.resume.ensures
