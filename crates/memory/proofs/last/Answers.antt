-- `memory::last` meets its contract: by its one test, and then the words of the last entry.
use mathlib.Core.Path.{refl}
use native.Mathlib.Omega.{arith}
use lib.IntN.{pos}
use mir.Facts.{to_z-of_z}
use mir.Syntax.{w64}
use Rattle.std.proofs.Common.{FitsSigned}
use Rattle.memory.specs.Entries.{last_none, last_some}
use Rattle.memory.proofs.last.Goals as goal

pub returns-then-number_at-lt1 : goal.returns-then-number_at-lt1
returns-then-number_at-lt1 c = let zero : FitsSigned w64 (pos 0) = record { sfits = omega arith } in
    last_none c.number_at.ensures c.if-number_at-lt1.true refl (zero, zero, zero)

pub returns : goal.returns
returns c = let number : FitsSigned w64 c.word_at.result = record { sfits = c.word_at.type_inv } in
    let rate : FitsSigned w64 c.word_at-2.result = record { sfits = c.word_at-2.type_inv } in
    let base : FitsSigned w64 c.word_at-3.result = record { sfits = c.word_at-3.type_inv } in
    simp (to_z-of_z, number, rate, base)
    (last_some c.number_at.ensures c.if-number_at-lt1.false c.number_at-i.ensures
    c.entry_at-at.ensures c.number_at-2.ensures c.word_at.ensures c.word_at-2.ensures
    c.word_at-3.ensures (number, rate, base))
