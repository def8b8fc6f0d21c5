-- `table::put_link_in` meets its contract.
use mathlib.Core.Path.{◌≡◌}
use native.Mathlib.Omega.{arith}
use lib.IntN.{pos}
use mir.Facts.{to_z_pos}
use mir.Syntax.{w64}
use mir.Val.{to_z}
use Rattle.table.specs.Layout.{written_at}
use borrow.Author.Rules.{rules}
use Rattle.table.proofs.put_link_in.Goals as goal

pub returns : goal.returns
returns c = let v : to_z w64 c.args.value ≡ pos c.args.value = to_z_pos w64 (omega (arith, c.ranges.value)) in
    written_at _ _ _ _ _ _ c.spot_in-at.ensures (simp v at c.set_word.ensures)
