-- The loop of `reading_steps::nth_place`: as many places were passed as the counter tells.
use Rattle.promises.specs.Promises.{part_of}
use Rattle.reading.specs.PartReading.{Nearing}
use Rattle.reading_steps.proofs.nth_place.Given as goal

abbrev pub invariant-loop : goal.invariant-loop
invariant-loop l = Nearing (part_of l.table l.start) l.n l.place l.counter
