-- `table::link` meets its contract.
use mathlib.Core.Path.{◌≡◌, ◌∙◌, ap}
use Prim.Native.Nat.{ℕ}
use Rattle.table.specs.Fields.{most_nodes}
use Rattle.table.specs.Words.{Words, word, up_to}
use Rattle.table.specs.Layout.{cell, spot, link_at}
use borrow.Author.Rules.{rules}
use Rattle.table.proofs.link.Goals as goal

-- `table::link` meets its contract.
read : (w : Words) (f s at r : ℕ) → at ≡ spot w f s → r ≡ up_to most_nodes (word w at) → r ≡ link_at w f s
unfolding cell
read w f s at r e h = h ∙ ap (λ (k : ℕ). up_to most_nodes (word w k)) e

pub returns : goal.returns
returns c = read _ _ _ _ _ c.spot.ensures c.number_at.ensures
