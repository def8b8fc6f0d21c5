-- The steps of an update each by itself, with no row around them: what rebalance, insert and remove make of whole subtrees.
use Rattle.std.specs.Prelude.{suc, ◌*◌, ◌+◌, ◌≤◌, ◌≡◌, refl, length}
use Rattle.std.proofs.Common.{sym, ap, ◌∙◌}
use mathlib.Core.List.Memᴰ
use mathlib.Core.List.{[], ◌∷◌, ◌++◌, append-nil, Memᴰ}
use Rattle.std.proofs.Math.Option.{Option, none, some}
use Rattle.lists.specs.Places.{all_cons}
use Rattle.envelopes.specs.PseudoLines.{Figure, PseudoLines}
use Rattle.envelopes.specs.Envelope.{Ordered}
use Rattle.trees.specs.Tree.{leaves}
use Rattle.dynamic.specs.OfferTree.{Held, held_shape, Made}
use Rattle.dynamic.specs.Updates.{Removed, rebalance, insert, remove}
use Rattle.dynamic.specs.Valid.{Whole, WholeBook, book_lines, placed, instead, Fits}
use Rattle.dynamic.specs.Work.{inners}
use Rattle.dynamic.specs.Floors.{floor_old}
use Rattle.dynamic.specs.Forests.{row_of, lines_row, lines_of, inners_of}
use Rattle.dynamic.specs.Kept.{Kept, held_height, started}
use Rattle.dynamic.specs.Placed.{New, placed_ordered, instead_ordered}
use Rattle.dynamic.specs.Rebalanced.{Balances}
use Rattle.dynamic.specs.Removed.{Shorter}

pub whole_row : (S : Figure) (st : Option (Held S.Line)) → ((h : Held S.Line) → Memᴰ h (row_of st) → Whole S h) → WholeBook S st
whole_row S none f = tt
whole_row S (some h) f = f h (Memᴰ.head refl)

-- Siblings made one.
pub record Rebalances (S : Figure) (l r : Held S.Line) (m : Made S.Line) : Type 0 where
  pub whole : Whole S m.held
  pub lines : leaves (held_shape m.held) ≡ leaves (held_shape l) ++ leaves (held_shape r)
  pub heights : Balances (held_height l) (held_height r) (held_height m.held)
  pub few : length m.log ≤ 3

-- A line more.
pub record Gains (S : Figure) (s : S.Line) (h : Held S.Line) (m : Made S.Line) : Type 0 where
  pub whole : Whole S m.held
  pub lines : leaves (held_shape m.held) ≡ placed S s (leaves (held_shape h))
  pub low : held_height h ≤ held_height m.held
  pub high : held_height m.held ≤ suc (held_height h)
  pub few : length m.log ≤ 3 * held_height h + 1

-- A line less, or another in its place.
pub record Loses (S : Figure) (s : S.Line) (by : Option S.Line) (h : Held S.Line) (m : Removed S.Line) : Type 0 where
  pub whole : WholeBook S m.rest
  pub lines : book_lines m.rest ≡ instead S s by (leaves (held_shape h))
  pub heights : Shorter (held_height h) m.rest
  pub few : length m.log ≤ 3 * held_height h
