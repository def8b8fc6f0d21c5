-- `reading::part_piece` meets its contract: the words of the slot, with no crossing at the last piece.
use mathlib.Core.Path.{refl}
use mir.Syntax.{w64}
use Rattle.std.proofs.Common.{FitsSigned}
use mir.Facts.{to_z-of_z}
use borrow.Author.Tests.{eqb-true, eqb-false}
use Rattle.reading.specs.PartReading.{hands_end, hands_piece}
use Rattle.reading.proofs.part_piece.Goals as goal

pub returns-then-place-lt1 : goal.returns-then-place-lt1
returns-then-place-lt1 c = hands_end refl c.if-place-lt1.true

pub returns : goal.returns
returns c = let n = c.get-number in
    let u = c.crossing_word-numerator in
    let v = c.crossing_word-denominator in
    let p = c.args.place in
    let z = c.end.result in
    let fn : FitsSigned w64 n.result = record { sfits = n.type_inv } in
    let fu : FitsSigned w64 u.result = record { sfits = u.type_inv } in
    let fv : FitsSigned w64 v.result = record { sfits = v.type_inv } in
    simp (to_z-of_z, fn, fu, fv)
    (hands_piece c.envelope_root-root.ensures c.end.ensures c.if-place-lt1.false
    (λ e. eqb-true p z e) (λ e. eqb-false p z e) n.ensures u.ensures v.ensures)
