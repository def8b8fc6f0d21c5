-- `meet_books::stand_apart` meets its contract: by the ends of the two trees of offers.
use mir.Facts.{to_z-of_z}
use mir.Syntax.{w64}
use Rattle.std.proofs.Common.{FitsSigned}
use Rattle.meet_books.specs.Apart.{sets_apart}
use Rattle.meet_books.proofs.stand_apart.Goals as goal

pub returns : goal.returns
returns c = let g : FitsSigned w64 c.get-rate.result = record { sfits = c.get-rate.type_inv } in
    sets_apart c.offers_root-x.ensures c.offers_root-y.ensures c.end-a.ensures c.end-b.ensures
    c.get-rate.ensures (simp (to_z-of_z, g) at c.is_above.ensures)
