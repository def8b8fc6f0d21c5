-- What the search for the tree of numbers tells.
use Rattle.std.specs.Prelude.{◌≡◌, Bool, true, ℕ, length}
use mathlib.Core.List.{List, Pairwise}
use Rattle.table.specs.Words.{Words}
use Rattle.table.specs.Items.{Apart}
use Rattle.form.specs.Form.{Numbered}
use Rattle.check_trees.specs.Stretches.{span}
use Rattle.check_trees.specs.Laid.{items_at, AllPlaced}

-- the live items stand in the slots at places 0 up to n
pub record Tallies (w : Words) (xs xs' : List ℕ) (n : ℕ) (r : Bool) : Type 0 where
  pub long : length xs' ≡ length xs
  pub sound : AllPlaced w (items_at w (span xs 0 n)) → Pairwise Apart (items_at w (span xs 0 n)) → r ≡ true → Numbered w (items_at w (span xs 0 n))
  pub complete : AllPlaced w (items_at w (span xs 0 n)) → Pairwise Apart (items_at w (span xs 0 n)) → Numbered w (items_at w (span xs 0 n)) → r ≡ true
