-- What the check of the memory tells.
use Rattle.std.specs.Prelude.{◌≡◌, Bool, List, [], map, ℕ}
use Rattle.offers.specs.Offers.{Offer}
use Rattle.plain.specs.Book.{Undo, Undoable}
use Rattle.plain.specs.Sound.{Sound}
use Rattle.table.specs.Words.{Words}
use Rattle.table.specs.Layout.{cap}
use Rattle.table.specs.Items.{offer_of}
use Rattle.form.specs.Memory.{Ring}
use Rattle.check_trees.specs.Deciding.{Decides}
use Rattle.check_trees.specs.Stretches.{span}
use Rattle.check_trees.specs.Laid.{items_at}

-- The answer is yes exactly where some entries stand in the ring and can be undone from the live offers: those in the slots at places 0 up to n, n not
-- among them, of the scratch array. It is told where these offers are a plain book's.
pub record Recalls (w : Words) (xs : List ℕ) (n : ℕ) (r : Bool) : Type 0 where
  pub told : (os : List Offer) → os ≡ map offer_of (items_at w (span xs 0 n)) → Sound (record { capacity = cap w; offers = os; memory = [] }) →
      Decides r ((us : List Undo) × Ring w us × Undoable (cap w) os us)
