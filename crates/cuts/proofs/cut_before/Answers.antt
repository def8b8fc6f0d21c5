-- `cuts::cut_before` meets its contract.
use Rattle.cuts.specs.KnownEnds.{before_first, before_cut}
use mir.Facts.{to_z-of_z}
use mir.Syntax.{w64}
use Rattle.std.proofs.Common.{FitsSigned}
use borrow.Author.Rules.{rules}
use Rattle.cuts.proofs.cut_before.Goals as goal

pub returns-then-v-end_in : goal.returns-then-v-end_in
returns-then-v-end_in c = before_first c.end_in.ensures c.if-v-end_in.true

pub returns : goal.returns
returns c = let f : FitsSigned w64 c.get_in-rate.result = record { sfits = c.get_in-rate.type_inv } in
    before_cut c.get_in-rate.ensures (simp (to_z-of_z, f) at c.cut_in.ensures)
