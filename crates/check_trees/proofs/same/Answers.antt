-- `check_trees::same` meets its contract.
use Rattle.std.proofs.Common.{arith}
use Rattle.std.proofs.lemmas.Bool.Decides.{Decides-eqb}
use Rattle.std.proofs.lemmas.Slice.Eq.{slice_eq-Decides}
use Rattle.check_trees.proofs.Scans.{agree_scan}
use Rattle.check_trees.proofs.same.Goals as goal

pub returns : goal.returns
returns c = agree_scan c.args.scratch.now c.args.a c.args.b c.args.count (omega arith) (omega arith) (slice_eq-Decides Decides-eqb _ _ _ c.eq.ensures)
