-- `prices::price` meets its contract: no product and no sum wraps, since all that is multiplied is in range.
use mir.Facts.{to_z-of_z}
use mir.Syntax.{w64}
use Rattle.std.proofs.Common.{FitsSigned}
use Rattle.prices.specs.Prices.{base_product_fits, rate_product_fits, price_fits, price_is}
use Rattle.prices.proofs.price.Goals as goal

pub overflow_mul-result : goal.overflow_mul-result
overflow_mul-result c = let a = c.args in
    let f : FitsSigned w64 c.base.result = record { sfits = c.base.type_inv } in
    simp (to_z-of_z, f, c.ranges.d) (base_product_fits a.part.now a.slot c.base.result a.d c.base.ensures c.requires.below)

pub overflow_mul-result-2 : goal.overflow_mul-result-2
overflow_mul-result-2 c = let a = c.args in
    let f : FitsSigned w64 c.rate.result = record { sfits = c.rate.type_inv } in
    simp (to_z-of_z, f, c.ranges.n) (rate_product_fits a.part.now a.slot c.rate.result a.n c.rate.ensures
    c.requires.above)

pub overflow_add-result : goal.overflow_add-result
overflow_add-result c = let a = c.args in
    let p = c.requires in
    let b = c.base.result in
    let r = c.rate.result in
    let f : FitsSigned w64 b = record { sfits = c.base.type_inv } in
    let g : FitsSigned w64 r = record { sfits = c.rate.type_inv } in
    let k = base_product_fits a.part.now a.slot b a.d c.base.ensures p.below in
    let l = rate_product_fits a.part.now a.slot r a.n c.rate.ensures p.above in
    simp (to_z-of_z, f, g, c.ranges.d, c.ranges.n, k, l)
    (price_fits a.part.now a.slot b r a.n a.d c.base.ensures c.rate.ensures p.above p.below)

pub returns : goal.returns
returns c = let a = c.args in
    let p = c.requires in
    let b = c.base.result in
    let r = c.rate.result in
    let f : FitsSigned w64 b = record { sfits = c.base.type_inv } in
    let g : FitsSigned w64 r = record { sfits = c.rate.type_inv } in
    let k = base_product_fits a.part.now a.slot b a.d c.base.ensures p.below in
    let l = rate_product_fits a.part.now a.slot r a.n c.rate.ensures p.above in
    let q = price_fits a.part.now a.slot b r a.n a.d c.base.ensures c.rate.ensures p.above p.below in
    simp (to_z-of_z, f, g, c.ranges.d, c.ranges.n, k, l, q)
    (price_is a.part.now a.slot b r a.n a.d c.base.ensures c.rate.ensures)
