-- The entries that the header tells: the ways through the code that looks whether they can be undone.
use Rattle.std.specs.Prelude.{◌≡◌, refl, Bool, true, false, List, [], ◌∷◌, map, ℕ, suc, ◌-◌, ◌≤◌, ◌<◌, length, pos}
use Rattle.std.proofs.Common.{sym, ◌∙◌, ap, arith}
use Rattle.lists.specs.Bools.{never}
use Rattle.offers.specs.Offers.{Offer}
use Rattle.plain.specs.Book.{Undo, Undoable}
use Rattle.plain.specs.Sound.{Sound}
use Rattle.table.specs.Fields.{last_entry_word, remembered_word}
use Rattle.table.specs.Words.{Words, word, up_to, up_to_in, up_to_most}
use Rattle.table.specs.Layout.{cap}
use Rattle.table.specs.Items.{Item, offer_of}
use Rattle.form.specs.Memory.{Ring}
use Rattle.check_trees.specs.Deciding.{Decides, decides_no, decides_as}
use Rattle.check_trees.specs.Stretches.{span, span_length}
use Rattle.check_trees.specs.Laid.{items_at, items_length}
use Rattle.check_memory.specs.Recalls.{Recalls}
use Rattle.check_memory.specs.Flags.{Marked, Marks, Tracks, offers_at}
use Rattle.check_memory.specs.Walks.{Walks, Walked, Listed, listed, walks}

abbrev Remembered : Words → List Offer → Type 0
Remembered w os = (us : List Undo) × Ring w us × Undoable (cap w) os us

-- no entries stand in the ring
recalls_not : {w : Words} {xs : List ℕ} {n : ℕ} → ((us : List Undo) → Ring w us → ⊥) → Recalls w xs n false
recalls_not none = record { told = λ os e S. decides_no (λ q. none q.0 q.1) }

map_length : (ts : List Item) → length (map offer_of ts) ≡ length ts
map_length [] = refl
map_length (t ∷ ts) = ap suc (map_length ts)

live_length : (w : Words) (xs : List ℕ) (n : ℕ) → length (offers_at w xs 0 n) ≡ n
live_length w xs n = omega (arith, map_length (items_at w (span xs 0 n)), items_length w (span xs 0 n), span_length xs 0 n)

-- more live offers than slots
pub recalls_over : {w : Words} {xs : List ℕ} {n c : ℕ} → c ≡ cap w → c < n → Recalls w xs n false
recalls_over {w} {xs} {n} ec h = record { told = λ os e S. absurd (omega (arith, S.fits, ap length e, live_length w xs n)) }

module _ {w : Words} {last : ℕ} {b : Bool} (el : last ≡ up_to 255 (word w last_entry_word)) (dl : Decides b (word w last_entry_word ≡ pos last)) where
  last_is : {us : List Undo} (q : Ring w us) → last ≡ q.last
  last_is q = el ∙ ap (up_to 255) q.last_word ∙ up_to_in 255 q.last (omega (arith, q.last_place))

  pub recalls_last : {xs : List ℕ} {n : ℕ} → b ≡ false → Recalls w xs n false
  recalls_last e = recalls_not (λ us q. never (dl.complete (q.last_word ∙ ap pos (sym (last_is q)))) e)

  module _ (tl : b ≡ true) {count : ℕ} {b' : Bool} (ec : count ≡ up_to 256 (word w remembered_word)) (dc : Decides b' (word w remembered_word ≡ pos count)) where
    count_is : {us : List Undo} → Ring w us → count ≡ length us
    count_is {us} q = ec ∙ ap (up_to 256) q.count_word ∙ up_to_in 256 (length us) q.few

    pub recalls_count : {xs : List ℕ} {n : ℕ} → b' ≡ false → Recalls w xs n false
    recalls_count e = recalls_not (λ us q. never (dc.complete (q.count_word ∙ ap pos (sym (count_is q)))) e)

    module _ (tc : b' ≡ true) where
      there : {os : List Offer} → Walks w last count os → Remembered w os
      there p = ring (listed p)
        where
          ring : {os : List Offer} → Listed w last count os → Remembered w os
          ring q = (
            q.entries,
            record {
              last = last;
              last_place = omega (arith, up_to_most 255 (word w last_entry_word));
              last_word = dl.sound tl;
              count_word = dc.sound tc ∙ ap pos (sym q.long);
              few = omega (arith, q.long, up_to_most 256 (word w remembered_word));
              entries = q.there;
            },
            q.undoable,
          )

      back : {os : List Offer} → Remembered w os → Walks w last count os
      back (us, q, d) = rw (last_is q, count_is q) (walks us q.entries d)

      pub recalls_all : {xs : List ℕ} {n c room : ℕ} {flags flags' : List Bool} {r : Bool} → c ≡ cap w → n ≤ c → room ≡ c - n →
          Marked flags [] → Marks w xs n flags flags' → Walked w flags' room last count r → Recalls w xs n r
      recalls_all {xs} {n} {c} {room} {flags'} e h er M K W = record { told = λ os eo S. decides_as there back (W.told os (tracked os eo S)) }
        where
          tracked : (os : List Offer) → os ≡ offers_at w xs 0 n → Sound (record { capacity = cap w; offers = os; memory = [] }) → Tracks (cap w) flags' room os
          tracked os eo S = record {
            marked = rw eo (K.told M);
            apart = S.numbered;
            full = omega (arith, ap length eo, live_length w xs n);
          }
