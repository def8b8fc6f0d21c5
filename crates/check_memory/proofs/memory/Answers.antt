-- `check_memory::memory` meets its contract.
use mathlib.Core.Path.{refl}
use native.Mathlib.Omega.{arith}
use Rattle.table.specs.Fields.{last_entry_word, remembered_word}
use Rattle.table.specs.Words.{word, up_to_most}
use Rattle.table.specs.Layout.{cap_most}
use Rattle.check_memory.specs.Flags.{all_down}
use Rattle.check_memory.specs.Remembering.{recalls_last, recalls_count, recalls_over, recalls_all}
use Rattle.check_memory.proofs.memory.Goals as goal

pub returns-then-not-tells : goal.returns-then-not-tells
returns-then-not-tells c = recalls_last c.number_at-last.ensures c.tells.ensures c.if-not-tells.true

pub returns-then-not-tells-2 : goal.returns-then-not-tells-2
returns-then-not-tells-2 c = recalls_count c.number_at-last.ensures c.tells.ensures c.if-not-tells.false c.number_at-count.ensures
    c.tells-2.ensures c.if-not-tells-2.true

pub returns-then-c-used : goal.returns-then-c-used
returns-then-c-used c = recalls_over c.capacity-c.ensures c.if-c-used.true

pub all_undone-requires : goal.all_undone-requires
all_undone-requires c = let w = c.args.part.now in (
  omega (arith, c.capacity-c.ensures, cap_most w),
  omega (arith, c.number_at-last.ensures, up_to_most 255 (word w last_entry_word)),
  omega (arith, c.number_at-count.ensures, up_to_most 256 (word w remembered_word)),
)

pub returns : goal.returns
returns c = recalls_all c.number_at-last.ensures c.tells.ensures c.if-not-tells.false c.number_at-count.ensures
    c.tells-2.ensures c.if-not-tells-2.false c.capacity-c.ensures c.if-c-used.false refl all_down
    c.mark.ensures c.all_undone.ensures
