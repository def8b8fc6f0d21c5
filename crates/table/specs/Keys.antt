-- A field of slots as the key of items: what a cut and a search by key ask of the words.
use Rattle.std.specs.Prelude.{◌≡◌, ℕ, ℤ}
use mathlib.Core.List.Memᴰ
use mathlib.Core.List.{List, ◌++◌, Memᴰ}
use Rattle.table.specs.Fields.{number_field, rate_field}
use Rattle.table.specs.Words.{Words}
use Rattle.table.specs.Layout.{cell}
use Rattle.table.specs.Items.{Item}
use Rattle.table.specs.Threads.{Holds}

-- field f of every item's slot is the item's key
pub record Keyed (w : Words) (f : ℕ) (key : Item → ℤ) (xs : List Item) : Type 0 where
  pub read : {a : Item} → Memᴰ a xs → cell w f a.slot ≡ key a

pub keyed_left : {w : Words} {f : ℕ} {key : Item → ℤ} {xs : List Item} (ys : List Item) → Keyed w f key (xs ++ ys) → Keyed w f key xs
keyed_left ys r = record { read = λ m. r.read (Memᴰ.append_left ys m) }

pub keyed_right : {w : Words} {f : ℕ} {key : Item → ℤ} (xs : List Item) {ys : List Item} → Keyed w f key (xs ++ ys) → Keyed w f key ys
keyed_right xs r = record { read = λ m. r.read (Memᴰ.append_right xs m) }

-- offers in their slots, by number and by rate
pub keyed_numbers : {w : Words} {xs : List Item} → Holds w xs → Keyed w number_field (λ (a : Item). a.offer.number) xs
keyed_numbers h = record { read = λ m. (h.held m).number }

pub keyed_rates : {w : Words} {xs : List Item} → Holds w xs → Keyed w rate_field (λ (a : Item). a.offer.rate) xs
keyed_rates h = record { read = λ m. (h.held m).rate }
