-- `declining::live_slot` meets its contract: a search from the root of the numbers.
use mir.Facts.{to_z-of_z}
use Rattle.index.specs.Finding.{found_key}
use Rattle.declining.specs.PartCauses.{found_at}
use Rattle.declining.proofs.live_slot.Goals as goal

pub returns : goal.returns
returns c = found_at c.number_at-root.ensures (found_key (simp (to_z-of_z, c.ranges.number) at c.find.ensures))
