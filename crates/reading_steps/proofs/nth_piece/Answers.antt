-- `reading_steps::nth_piece` meets its contract: the place of piece n, and what a reading hands out there.
use Rattle.reading_steps.specs.ReadingSteps.{hands_at}
use Rattle.reading_steps.proofs.nth_piece.Goals as goal

pub returns : goal.returns
returns c = hands_at c.nth_place-place.ensures c.piece.ensures
