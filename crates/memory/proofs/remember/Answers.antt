-- `memory::remember` meets its contract: six words written one after another.
use mir.Facts.{to_z-of_z}
use Rattle.memory.specs.Entries.{behind_round, count_most, last_place, remembering}
use native.Mathlib.Omega.{arith}
use Rattle.table.specs.Words.{up_to_most}
use Rattle.memory.proofs.remember.Goals as goal

pub overflow_add-next : goal.overflow_add-next
overflow_add-next c = omega (arith, c.number_at-last.ensures, up_to_most last_place)

pub overflow_add-count : goal.overflow_add-count
overflow_add-count c = omega (arith, count_most _ c.number_at-count.ensures)

pub returns : goal.returns
returns c = let fits = c.ranges in
    remembering c.number_at-last.ensures (behind_round _) c.number_at-count.ensures (omega (arith, c.min-more.ensures))
    c.entry_at-at.ensures c.set_number.ensures
    (simp (to_z-of_z, fits.number, fits.rate, fits.base) at c.set_word.ensures)
    (simp (to_z-of_z, fits.number, fits.rate, fits.base) at c.set_word-2.ensures)
    (simp (to_z-of_z, fits.number, fits.rate, fits.base) at c.set_word-3.ensures)
    c.set_number-2.ensures c.set_number-3.ensures
