-- `reading::part_first` meets its contract: the first piece is the tree's first leaf.
use Rattle.reading.specs.PartReading.{first_begins}
use Rattle.reading.proofs.part_first.Goals as goal

pub returns : goal.returns
returns c = first_begins c.envelope_root-root.ensures c.end.ensures
