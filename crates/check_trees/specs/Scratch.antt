-- The scratch array of the check. It has two halves, with an entry for each slot in either: what is read first, and what is compared with it.
use Rattle.std.specs.Prelude.{ℕ, ◌*◌}
use Rattle.table.specs.Fields.{most_slots}

-- its entries
abbrev pub scratch_length : ℕ
scratch_length = 2 * most_slots

-- the place at which the second half begins
abbrev pub second_half : ℕ
second_half = most_slots
