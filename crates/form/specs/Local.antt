-- The form is a matter of the part's words alone: words past the part may change as they will. The offers are a matter of the words before the memory.
use Rattle.std.specs.Prelude.{◌≡◌, refl, List, [], ◌∷◌, ℕ, ◌+◌, ◌*◌, ◌≤◌, ◌<◌, length, ℤ}
use Rattle.std.proofs.Math.Path.{sym, ap}
use Rattle.std.proofs.Common.{◌∙◌, arith}
use Rattle.std.proofs.Math.Option.{Option, none, some}
use Rattle.plain.specs.Book.{State, Undo, most_remembered, part_length, recalling}
use Rattle.trees.specs.Operations.{Part, part_leaves}
use Rattle.dynamic.specs.OfferTree.{Held}
use Rattle.dynamic.specs.Rearranged.{stored}
use Rattle.table.specs.Fields.{capacity_word, envelope_root_word, first_free_word, live_count_word, next_free_field}
use Rattle.table.specs.Fields.{last_entry_word, number_field, numbers_root_word, offers_root_word, order_root_word, rank_field, remembered_word}
use Rattle.table.specs.Words.{Words, word, word_out}
use Rattle.table.specs.Layout.{cap, cap_of, cell, place_low, place_high, slots_end, part_end, Valid, decide_valid, spot, spot_of, spot_in, spot_out}
use Rattle.table.specs.Items.{Item, Slots}
use Rattle.table.specs.PartTrees.{TiedPart}
use Rattle.form.specs.Stored.{HeldIn}
use Rattle.form.specs.Frames.{Same, tied_same, part_same, holds_same, stored_same}
use Rattle.form.specs.Form.{Book, Form, OffersIn, IndexIn, InOrder, Freely, FreeChain, free_none, free_more}
use Rattle.form.specs.Memory.{Ring, EntryIn, posting, withdrawing, EntriesIn, entry_at, earlier, earlier_place}
use Rattle.form.specs.Memory.{done_word, entry_number_word, entry_rate_word, entry_base_word}

-- the same words in a part of capacity c
pub record Alike (c : ℕ) (w w' : Words) : Type 0 where
  pub long : length w' ≡ length w
  pub words : (i : ℕ) → i < part_length c → word w' i ≡ word w i

-- what a call leaves of the words lent to it: as many, and those past a part of capacity c as they were
pub record Beyond (c : ℕ) (w w' : Words) : Type 0 where
  pub long : length w' ≡ length w
  pub rest : (i : ℕ) → part_length c ≤ i → word w' i ≡ word w i

-- the same words that tell of offers: of the header up to the root of the order, and of the slots
pub record AlikeOffers (c : ℕ) (w w' : Words) : Type 0 where
  pub long : length w' ≡ length w
  pub header : (i : ℕ) → i ≤ order_root_word → word w' i ≡ word w i
  pub slots : (i : ℕ) → 64 ≤ i → i < slots_end c → word w' i ≡ word w i

pub alike_offers : {c : ℕ} {w w' : Words} → Alike c w w' → AlikeOffers c w w'
alike_offers a = record { long = a.long; header = λ i h. a.words i (omega arith); slots = λ i l h. a.words i (omega arith) }

module _ {w w' : Words} {c : ℕ} (fits : cap w ≡ c) (a : AlikeOffers c w w') where
  pub alike_cap : cap w' ≡ cap w
  alike_cap = cap_of w w' a.long (a.header capacity_word (omega arith))

  pub alike_cell : (f s : ℕ) → cell w' f s ≡ cell w f s
  unfolding cell
  alike_cell f s = ap (word w') (spot_of w w' f s a.long alike_cap) ∙ go (decide_valid w f s)
    where
      go : Dec (Valid w f s) → word w' (spot w f s) ≡ word w (spot w f s)
      go (yes v) = a.slots (spot w f s) (omega (arith, spot_in v, place_low (cap w) f s)) (omega (arith, spot_in v, place_high v))
      go (no v) = word_out w' (spot w f s) (omega (arith, spot_out v, a.long)) ∙ sym (word_out w (spot w f s) (omega (arith, spot_out v)))

  pub alike_same : (F : ℕ → Type 0) (xs : List Item) → Same F xs w w'
  alike_same F xs = record { cells = λ f s p i. alike_cell f s }

  pub alike_slots : {xs : List Item} → Slots (cap w) xs → Slots (cap w') xs
  alike_slots {xs} s = rw alike_cap s

  pub alike_index : {k : ℕ} {key : Item → ℤ} {live : List Item} (p : Part Item) → IndexIn w k key live p → IndexIn w' k key live p
  alike_index {k} p n =
      record { tied = tied p n.tied; balanced = n.balanced; falling = n.falling; all_live = n.all_live; all_there = n.all_there }
    where
      tied : (p : Part Item) → TiedPart w k p → TiedPart w' k p
      tied none t = tt
      tied (some u) t = tied_same t (alike_same _ _)

  pub alike_free : {ss : List ℕ} → FreeChain w ss → FreeChain w' ss
  alike_free free_none = free_none
  alike_free (free_more {s} {ss} low high zero next rest) =
      free_more low (rw alike_cap high) (alike_cell number_field s ∙ zero) (alike_cell next_free_field s ∙ next) (alike_free rest)

-- ---- the memory

-- the same words that tell of it
pub record AlikeMemory (w w' : Words) : Type 0 where
  pub room : cap w' ≡ cap w
  pub last : word w' last_entry_word ≡ word w last_entry_word
  pub count : word w' remembered_word ≡ word w remembered_word
  pub ring : (i : ℕ) → slots_end (cap w) ≤ i → i < part_end (cap w) → word w' i ≡ word w i

module _ {w w' : Words} (a : AlikeMemory w w') where
  pub alike_word : {i : ℕ} → i < most_remembered → (k : ℕ) → k < 4 → word w' (entry_at w' i + k) ≡ word w (entry_at w i + k)
  alike_word {i} h k l = ap (λ (c : ℕ). word w' (slots_end c + 4 * i + k)) a.room ∙ a.ring (entry_at w i + k) (omega arith) (omega arith)

  pub alike_entry : {i : ℕ} {u : Undo} → i < most_remembered → EntryIn w (entry_at w i) u → EntryIn w' (entry_at w' i) u
  alike_entry h (posting d n) = posting (alike_word h done_word (omega arith) ∙ d) (alike_word h entry_number_word (omega arith) ∙ n)
  alike_entry h (withdrawing d n r b) =
      withdrawing (alike_word h done_word (omega arith) ∙ d) (alike_word h entry_number_word (omega arith) ∙ n)
      (alike_word h entry_rate_word (omega arith) ∙ r) (alike_word h entry_base_word (omega arith) ∙ b)

  pub alike_entries : {i : ℕ} (us : List Undo) → i < most_remembered → EntriesIn w i us → EntriesIn w' i us
  alike_entries [] h e = tt
  alike_entries {i} (u ∷ us) h (e, es) = (alike_entry h e, alike_entries us (earlier_place i h) es)

  pub ring_alike : {us : List Undo} → Ring w us → Ring w' us
  ring_alike {us} r =
      record {
        last = r.last;
        last_place = r.last_place;
        last_word = a.last ∙ r.last_word;
        count_word = a.count ∙ r.count_word;
        few = r.few;
        entries = alike_entries us r.last_place r.entries;
      }

-- ---- both
