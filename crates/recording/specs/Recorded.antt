-- A part put together again: its offers as an update left them, and its memory as an entry more or less left it.
use Rattle.std.specs.Prelude.{◌≡◌, refl, ℕ, ◌≤◌, length, ℤ}
use Rattle.std.proofs.Common.{sym, ◌∙◌, ap, subst, arith}
use mathlib.Core.List.Memᴰ
use mathlib.Core.List.{List, [], ◌∷◌, map, Memᴰ}
use Rattle.std.proofs.Math.Option.{Option}
use Rattle.lists.specs.Filter.{keep}
use Rattle.offers.specs.Offers.{Offer}
use Rattle.plain.specs.Book.{State, Undo, restore, withdraw, has_number, undo_of, Undoable, holding, recalling}
use Rattle.plain.specs.Undoing.{kept_one}
use Rattle.trees.specs.Operations.{part_leaves}
use Rattle.dynamic.specs.OfferTree.{Held}
use Rattle.table.specs.Fields.{base_field, last_entry_word, rate_field, remembered_word}
use Rattle.table.specs.Words.{Words, word}
use Rattle.table.specs.Layout.{cap, cell}
use Rattle.table.specs.Items.{Item, offer_of}
use Rattle.form.specs.Form.{Book, Form}
use Rattle.form.specs.Memory.{Ring}
use Rattle.form.specs.Local.{AlikeOffers, alike_cap, AlikeMemory, ring_alike}
use Rattle.form.proofs.Local.{book_alike}
use Rattle.form.specs.Live.{book_sound}
use Rattle.memory.specs.Ring.{OnlyMemory}
use Rattle.filing.specs.Updating.{Updated}
use Rattle.filing.specs.Withdrawing.{LiveAt}
use Rattle.filing.specs.PartUpdates.{Kept}
use Rattle.filing.specs.declared.Told.{Told}
use Rattle.recording.specs.Recording.{Inside, Recorded}

-- ---- the words

-- an update leaves the memory's words
kept_memory : {w w₁ : Words} → Kept w w₁ → AlikeMemory w w₁
kept_memory k =
    record {
      room = k.room;
      last = k.header last_entry_word (omega arith) (omega arith);
      count = k.header remembered_word (omega arith) (omega arith);
      ring = λ i l h. k.rest i l;
    }

pub inside_both : {w w₁ w' : Words} → Kept w w₁ → OnlyMemory w₁ w' → Inside w w'
inside_both {w} {w₁} k m =
    record {
      beyond =
          record {
            long = m.offers.long ∙ k.long;
            rest = λ i h. m.beyond i (omega (arith, h, k.room)) ∙ k.rest i (omega (arith, h));
          };
      room = alike_cap refl m.offers ∙ k.room;
    }

pub inside_same : {w w' : Words} → w' ≡ w → Inside w w'
inside_same e =
    record { beyond = record { long = ap length e; rest = λ i h. ap (λ (v : Words). word v i) e }; room = ap cap e }

-- ---- offers and memory

pub recorded :
    {w w₁ w' : Words} {plain : State} {held : Option (Held Item)} {t : Told} (os' : List Offer) (us' : List Undo) → Form w plain held → Kept w w₁ →
    Updated w₁ (holding plain os') held t.counts → OnlyMemory w₁ w' → (Ring w₁ plain.memory → Ring w' us') → Undoable plain.capacity os' us' →
    t.live ≡ length os' → Recorded w' (recalling plain os' us') held t
recorded {w₁ = w₁} {w' = w'} os' us' f k u m r d l =
    record {
      updated =
          record {
            after = u.after;
            log = u.log;
            stands = book_alike us' u.stands (subst (λ (c : ℕ). AlikeOffers c w₁ w') u.stands.capacity m.offers);
            work = u.work;
            spared = u.spared;
            counts = u.counts;
          };
      memory = record { ring = r (ring_alike (kept_memory k) f.memory.ring); undoable = d };
      live = l;
    }

-- there is room for an entry
pub some_room : {w w₁ : Words} {plain : State} {held : Option (Held Item)} → Form w plain held → Kept w w₁ → 1 ≤ cap w₁
some_room f k = omega (arith, f.book.some_slot, f.book.capacity, k.room)

-- ---- what undoes a withdrawal: the offer as its slot held it

pub undo_of_slot :
    {w : Words} {plain : State} {held : Option (Held Item)} {n r z : ℤ} {s : ℕ} {a : Item} (b : Book w plain held) → LiveAt n s (part_leaves b.order) a →
    r ≡ cell w rate_field s → z ≡ cell w base_field s → undo_of plain.offers (withdraw n) ≡ restore (record { number = n; rate = r; base = z }) ∷ []
undo_of_slot {w} {plain} {n = n} {r} {z} {s} {a} b live er ez =
    ap (map restore) (subst (λ (i : ℤ). keep (has_number i) plain.offers ≡ a.offer ∷ []) live.number_is one) ∙ (λ i. restore (same i) ∷ [])
  where
    one : keep (has_number a.offer.number) plain.offers ≡ a.offer ∷ []
    one = kept_one a.offer plain.offers (book_sound b).numbered (subst (Memᴰ a.offer) b.stands_for (Memᴰ.map offer_of live.member))

    rates : a.offer.rate ≡ r
    rates = sym (er ∙ ap (cell w rate_field) live.slot ∙ (b.in_order.holds.held live.member).rate)

    bases : a.offer.base ≡ z
    bases = sym (ez ∙ ap (cell w base_field) live.slot ∙ (b.in_order.holds.held live.member).base)

    same : a.offer ≡ record { number = n; rate = r; base = z }
    same i = record { number = live.number_is i; rate = rates i; base = bases i }
