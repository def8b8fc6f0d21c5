-- `prices::crossing_price` meets its contract.
use mir.Facts.{to_z-of_z}
use mir.Syntax.{w64}
use Rattle.std.proofs.Common.{FitsSigned}
use Rattle.prices.specs.Prices.{crossing_priced, crossing_price_is}
use borrow.Author.Rules.{rules}
use Rattle.prices.proofs.crossing_price.Goals as goal

pub price-requires : goal.price-requires
price-requires c = let a = c.args in
    let n = c.numerator in
    let d = c.denominator in
    let fn : FitsSigned w64 n.result = record { sfits = n.type_inv } in
    let fd : FitsSigned w64 d.result = record { sfits = d.type_inv } in
    simp (to_z-of_z, fn, fd) (crossing_priced a.part.now a.slot n.ensures d.ensures)
