-- Where there is a slot, the first word is the capacity, and the words are enough for it.
use Rattle.std.specs.Prelude.{◌≡◌, refl, Bool, true, false, cond, ℕ, ◌≤◌, length, leb, ℤ, pos, negsuc}
use Rattle.std.proofs.Common.{ap, arith, leb-true}
use Rattle.table.specs.Fields.{capacity_word, most_slots}
use Rattle.table.specs.Words.{Words, word, up_to}
use Rattle.table.specs.Layout.{cap, part_end}

up_to_above : (most : ℕ) (z : ℤ) {n : ℕ} → up_to most z ≡ n → 1 ≤ n → z ≡ pos n
unfolding up_to
up_to_above most (pos m) {n} e h = go (leb m most) e
  where
    go : (b : Bool) → cond b m 0 ≡ n → pos m ≡ pos n
    go true d = ap pos d
    go false d = absurd (omega arith)
up_to_above most (negsuc m) e h = absurd (omega arith)

-- where there is a slot, the first word is the capacity, and the words are enough for it
pub record There (w : Words) (c : ℕ) : Type 0 where
  pub first : word w capacity_word ≡ pos c
  pub room : part_end c ≤ length w

pub cap_there : (w : Words) {c : ℕ} → cap w ≡ c → 1 ≤ c → There w c
unfolding cap
cap_there w {c} e h = go (leb (part_end (up_to most_slots (word w capacity_word))) (length w)) refl e
  where
    go : (b : Bool) → leb (part_end (up_to most_slots (word w capacity_word))) (length w) ≡ b → cond b (up_to most_slots (word w capacity_word)) 0 ≡ c → There w c
    go true d k = record {
      first = up_to_above most_slots (word w capacity_word) k h;
      room =
          omega (arith, k, leb-true (part_end (up_to most_slots (word w capacity_word))) (length w) d);
    }
    go false d k = absurd (omega arith)
