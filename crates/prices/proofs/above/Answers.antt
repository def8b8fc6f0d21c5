-- `prices::above` meets its contract: by its tests.
use mathlib.Core.Path.{sym, ◌∙◌}
use mir.Facts.{to_z-of_z}
use mir.Syntax.{w64}
use Rattle.std.proofs.Common.{FitsSigned}
use Rattle.prices.specs.Prices.{crossing_priced, above_missing, above_first, above_leaf, above_second}
use borrow.Author.Rules.{rules}
use Rattle.prices.proofs.above.Goals as goal

pub returns-then-p-lt1 : goal.returns-then-p-lt1
returns-then-p-lt1 c = let a = c.args in above_missing a.ours.now a.p a.other.now a.x c.if-p-lt1.true

pub price-y-requires : goal.price-y-requires
price-y-requires c = let a = c.args in
    let n = c.numerator-n in
    let d = c.denominator-d in
    let fn : FitsSigned w64 n.result = record { sfits = n.type_inv } in
    let fd : FitsSigned w64 d.result = record { sfits = d.type_inv } in
    simp (to_z-of_z, fn, fd) (crossing_priced a.ours.now a.p n.ensures d.ensures)

pub price-requires : goal.price-requires
price-requires c = let a = c.args in
    let n = c.numerator-n in
    let d = c.denominator-d in
    let fn : FitsSigned w64 n.result = record { sfits = n.type_inv } in
    let fd : FitsSigned w64 d.result = record { sfits = d.type_inv } in
    simp (to_z-of_z, fn, fd) (crossing_priced a.ours.now a.p n.ensures d.ensures)

pub returns-then-on_or_above : goal.returns-then-on_or_above
returns-then-on_or_above c = let a = c.args in
    let n = c.numerator-n in
    let d = c.denominator-d in
    let fn : FitsSigned w64 n.result = record { sfits = n.type_inv } in
    let fd : FitsSigned w64 d.result = record { sfits = d.type_inv } in
    let fy : FitsSigned w64 c.price-y.result = record { sfits = c.price-y.type_inv } in
    let fz : FitsSigned w64 c.price.result = record { sfits = c.price.type_inv } in
    above_first a.ours.now a.p a.other.now a.x c.if-p-lt1.false n.ensures d.ensures
    (simp (to_z-of_z, fn, fd) at c.price-y.ensures) c.kept_in-s.ensures (simp (to_z-of_z, fn, fd) at c.price.ensures)
    (sym (simp (to_z-of_z, fy, fz) at c.on_or_above.ensures) ∙ c.if-on_or_above.true)

pub returns-then-x-le-MOST_SLOTS : goal.returns-then-x-le-MOST_SLOTS
returns-then-x-le-MOST_SLOTS c = let a = c.args in
    let n = c.numerator-n in
    let d = c.denominator-d in
    let fn : FitsSigned w64 n.result = record { sfits = n.type_inv } in
    let fd : FitsSigned w64 d.result = record { sfits = d.type_inv } in
    let fy : FitsSigned w64 c.price-y.result = record { sfits = c.price-y.type_inv } in
    let fz : FitsSigned w64 c.price.result = record { sfits = c.price.type_inv } in
    above_leaf a.ours.now a.p a.other.now a.x c.if-p-lt1.false n.ensures d.ensures
    (simp (to_z-of_z, fn, fd) at c.price-y.ensures) c.kept_in-s.ensures (simp (to_z-of_z, fn, fd) at c.price.ensures)
    (sym (simp (to_z-of_z, fy, fz) at c.on_or_above.ensures) ∙ c.if-on_or_above.false) c.if-x-le-MOST_SLOTS.true

pub price-requires-2 : goal.price-requires-2
price-requires-2 c = let a = c.args in
    let n = c.numerator-n in
    let d = c.denominator-d in
    let fn : FitsSigned w64 n.result = record { sfits = n.type_inv } in
    let fd : FitsSigned w64 d.result = record { sfits = d.type_inv } in
    simp (to_z-of_z, fn, fd) (crossing_priced a.ours.now a.p n.ensures d.ensures)

pub returns : goal.returns
returns c = let a = c.args in
    let n = c.numerator-n in
    let d = c.denominator-d in
    let fn : FitsSigned w64 n.result = record { sfits = n.type_inv } in
    let fd : FitsSigned w64 d.result = record { sfits = d.type_inv } in
    let fy : FitsSigned w64 c.price-y.result = record { sfits = c.price-y.type_inv } in
    let fz : FitsSigned w64 c.price.result = record { sfits = c.price.type_inv } in
    let ft : FitsSigned w64 c.price-2.result = record { sfits = c.price-2.type_inv } in
    (simp (to_z-of_z, fy, ft) at c.on_or_above-2.ensures)
    ∙ above_second a.ours.now a.p a.other.now a.x c.if-p-lt1.false n.ensures d.ensures
    (simp (to_z-of_z, fn, fd) at c.price-y.ensures) c.kept_in-s.ensures (simp (to_z-of_z, fn, fd) at c.price.ensures)
    (sym (simp (to_z-of_z, fy, fz) at c.on_or_above.ensures) ∙ c.if-on_or_above.false) c.if-x-le-MOST_SLOTS.false c.link-t.ensures
    (simp (to_z-of_z, fn, fd) at c.price-2.ensures)
