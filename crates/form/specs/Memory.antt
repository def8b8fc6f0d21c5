-- The memory of a part: a ring of 256 entries, four words each, behind the slots. Each entry undoes one accepted update. Word 7 of the header tells
-- the last entry's place in the ring, 0 to 255 also where there is none, word 8 how many entries there are; the one before an entry stands at the place
-- before it, and before place 0 is 255.
--     words of an entry   0 what was done: 1 a post, 2 a withdrawal   1 number   2 rate   3 base
-- An entry of a post has no rate and base: the words are free, and so are all words of a place that no entry has.
use Rattle.std.specs.Prelude.{◌≡◌, List, [], ◌∷◌, ℕ, zero, suc, ◌+◌, ◌*◌, ◌≤◌, ◌<◌, length, ℤ, pos}
use Rattle.std.proofs.Common.{arith}
use Rattle.plain.specs.Book.{State, Undo, unpost, restore, Recallable, most_remembered}
use Rattle.table.specs.Fields.{last_entry_word, remembered_word}
use Rattle.table.specs.Words.{Words, word}
use Rattle.table.specs.Layout.{cap, slots_end}

-- ---- where an entry stands

abbrev pub entry_at : Words → ℕ → ℕ
entry_at w i = slots_end (cap w) + 4 * i

-- the place of the entry before
abbrev pub earlier : ℕ → ℕ
earlier zero = 255
earlier (suc i) = i

pub earlier_place : (i : ℕ) → i < most_remembered → earlier i < most_remembered
earlier_place zero h = omega arith
earlier_place (suc i) h = omega arith

-- ---- what it holds

abbrev pub done_word : ℕ
done_word = 0

abbrev pub entry_number_word : ℕ
entry_number_word = 1

abbrev pub entry_rate_word : ℕ
entry_rate_word = 2

abbrev pub entry_base_word : ℕ
entry_base_word = 3

-- what was done
abbrev pub posted : ℕ
posted = 1

abbrev pub withdrawn : ℕ
withdrawn = 2

-- the words at `at` are the entry of a post, or of a withdrawal
pub data EntryIn (w : Words) (at : ℕ) : Undo → Type 0 where
  posting : {n : ℤ} → word w (at + done_word) ≡ pos posted → word w (at + entry_number_word) ≡ n → EntryIn w at (unpost n)
  withdrawing :
      {n r b : ℤ} → word w (at + done_word) ≡ pos withdrawn → word w (at + entry_number_word) ≡ n → word w (at + entry_rate_word) ≡ r →
      word w (at + entry_base_word) ≡ b → EntryIn w at (restore (record { number = n; rate = r; base = b }))

-- from place i on, back through the ring
abbrev pub EntriesIn : Words → ℕ → List Undo → Type 0
EntriesIn w i [] = Unit {0}
EntriesIn w i (u ∷ us) = EntryIn w (entry_at w i) u × EntriesIn w (earlier i) us

-- ---- the memory

-- the words hold these entries, the last one first
pub record Ring (w : Words) (us : List Undo) : Type 0 where
  pub last : ℕ
  pub last_place : last < most_remembered
  pub last_word : word w last_entry_word ≡ pos last
  pub count_word : word w remembered_word ≡ pos (length us)
  pub few : length us ≤ most_remembered
  pub entries : EntriesIn w last us

-- .. and they can be undone, the last one first
pub record Remembers (w : Words) (s : State) : Type 0 where
  pub ring : Ring w s.memory
  pub undoable : Recallable s
