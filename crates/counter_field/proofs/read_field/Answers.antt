-- `counter_field::read_field` meets its contract: the columns hold a number exactly where they are the one candidate's text.
use mathlib.Core.Path.{◌∙◌, sym}
use mathlib.Core.Bool.{true≢false}
use native.Mathlib.Omega.{arith}
use mir.Facts.{to_z-of_z}
use mir.Syntax.{w64}
use Rattle.std.proofs.lemmas.Slice.Eq.{slice_eq-Decides}
use Rattle.std.proofs.lemmas.Bool.Decides.{Decides-eqb}
use Rattle.std.proofs.Common.{FitsSigned}
use Rattle.counter_field.specs.Reading.{holds_none, candidate, held}
use Rattle.counter_field.proofs.read_field.Goals as goal

pub returns-then-width-eq0 : goal.returns-then-width-eq0
returns-then-width-eq0 c z h = holds_none _ z c.if-width-eq0.true h

pub returns-then-eq : goal.returns-then-eq
returns-then-eq c = let f : FitsSigned w64 c.number_in-number.result = record { sfits = c.number_in-number.type_inv } in
    simp (to_z-of_z, f)
    ((slice_eq-Decides Decides-eqb _ _ _ c.eq.ensures).0 c.if-eq.true
    ∙ candidate _ _ _ _ c.if-width-eq0.false (omega (arith, c.requires)) c.number_in-number.ensures c.justify.auto.column
    (simp (to_z-of_z, f) at c.justify.ensures))

pub returns-else-eq : goal.returns-else-eq
returns-else-eq c z h = let f : FitsSigned w64 c.number_in-number.result =
    record { sfits = c.number_in-number.type_inv } in
    absurd (true≢false (sym ((slice_eq-Decides Decides-eqb _ _ _ c.eq.ensures).1
    (held _ _ _ _ c.if-width-eq0.false (omega (
      arith,
      c.requires,
    ))
    c.number_in-number.ensures c.justify.auto.column
    (simp (to_z-of_z, f) at c.justify.ensures) z h)) ∙ c.if-eq.false))
