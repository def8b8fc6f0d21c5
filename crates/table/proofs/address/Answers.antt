-- `table::address` meets its contract. No step of the sum wraps, since the capacity is at most 4,096.
use mathlib.Core.Path.{refl}
use native.Mathlib.Omega.{arith}
use Rattle.table.specs.Layout.{place}
use Rattle.table.specs.Cells.{plane_low}
use borrow.Author.Rules.{rules}
use Rattle.table.proofs.address.Goals as goal

pub returns : goal.returns
unfolding place
returns c = refl
