-- Theorems on specs/Local.
use Rattle.std.specs.Prelude.{◌≡◌, refl, List, [], ◌∷◌, ℕ, ◌+◌, ◌*◌, ◌≤◌, ◌<◌, length, ℤ}
use Rattle.std.proofs.Math.Path.{sym, ap}
use Rattle.std.proofs.Common.{◌∙◌, arith}
use Rattle.std.proofs.Math.Option.{Option, none, some}
use Rattle.plain.specs.Book.{State, Undo, most_remembered, part_length, recalling}
use Rattle.trees.specs.Operations.{Part, part_leaves}
use Rattle.dynamic.specs.OfferTree.{Held}
use Rattle.dynamic.specs.Rearranged.{stored}
use Rattle.table.specs.Fields.{capacity_word, envelope_root_word, first_free_word, live_count_word, next_free_field}
use Rattle.table.specs.Fields.{last_entry_word, number_field, numbers_root_word, offers_root_word, order_root_word, rank_field, remembered_word}
use Rattle.table.specs.Words.{Words, word, word_out}
use Rattle.table.specs.Layout.{cap, cap_of, cell, place_low, place_high, slots_end, part_end, Valid, decide_valid, spot, spot_of, spot_in, spot_out}
use Rattle.table.specs.Items.{Item, Slots}
use Rattle.table.specs.PartTrees.{TiedPart}
use Rattle.form.specs.Stored.{HeldIn}
use Rattle.form.specs.Frames.{Same, tied_same, part_same, holds_same, stored_same}
use Rattle.form.specs.Form.{Book, Form, OffersIn, IndexIn, InOrder, Freely, FreeChain, free_none, free_more}
use Rattle.form.specs.Memory.{Ring, EntryIn, posting, withdrawing, EntriesIn, entry_at, earlier, earlier_place}
use Rattle.form.specs.Memory.{done_word, entry_number_word, entry_rate_word, entry_base_word}
use Rattle.form.specs.Local.{Alike, AlikeOffers, alike_cap, alike_cell, alike_free, alike_index, alike_offers, alike_same, alike_slots, ring_alike}

module _ {w w' : Words} {c : ℕ} (fits : cap w ≡ c) (a : AlikeOffers c w w') where
  alike_held : {x e : ℕ} (h : Held Item) → HeldIn w x e h → HeldIn w' x e h
  alike_held h i =
      record {
        root = i.root;
        envelope = i.envelope;
        slots = (alike_slots fits a) i.slots;
        kept = holds_same i.kept ((alike_same fits a) _ _);
        tied = tied_same i.tied ((alike_same fits a) _ _);
        stored = stored_same i.stored ((alike_same fits a) _ _) ((alike_same fits a) _ _);
        pieces = part_same h.whole i.pieces ((alike_same fits a) _ _);
        right = i.right;
      }

  alike_tree : (held : Option (Held Item)) → OffersIn w held → OffersIn w' held
  alike_tree none o = tt
  alike_tree (some h) o = alike_held h o

-- whatever is remembered then
pub book_alike : {w w' : Words} {s : State} {held : Option (Held Item)} (us : List Undo) → Book w s held → AlikeOffers s.capacity w w' →
    Book w' (recalling s s.offers us) held
book_alike {w} {w'} {s} {held} us b a =
    record {
      capacity = alike_cap b.capacity a ∙ b.capacity;
      some_slot = b.some_slot;
      offers =
          record {
            offers_root = header offers_root_word (omega arith) ∙ b.offers.offers_root;
            envelope_root = header envelope_root_word (omega arith) ∙ b.offers.envelope_root;
            offers_in = alike_tree b.capacity a held b.offers.offers_in;
          };
      order = b.order;
      in_order =
          record {
            order_root = header order_root_word (omega arith) ∙ o.order_root;
            live_count = header live_count_word (omega arith) ∙ o.live_count;
            order_in = alike_index b.capacity a b.order o.order_in;
            slots = alike_slots b.capacity a o.slots;
            holds = holds_same o.holds (alike_same b.capacity a _ _);
            ranked = record { read = λ {a = x} m. alike_cell b.capacity a rank_field x.slot ∙ o.ranked.read m };
          };
      leaf_per_rate = b.leaf_per_rate;
      numbers =
          record {
            numbers = b.numbers.numbers;
            numbers_root = header numbers_root_word (omega arith) ∙ b.numbers.numbers_root;
            numbers_in = alike_index b.capacity a b.numbers.numbers b.numbers.numbers_in;
          };
      free =
          record {
            free = f.free;
            first_free = header first_free_word (omega arith) ∙ f.first_free;
            free_chain = alike_free b.capacity a f.free_chain;
            free_apart = f.free_apart;
            slots_used = f.slots_used ∙ sym (alike_cap b.capacity a);
          };
      stands_for = b.stands_for;
    }
  where
    header : (i : ℕ) → i ≤ order_root_word → word w' i ≡ word w i
    header i h = a.header i h

    o : InOrder w b.order
    o = b.in_order

    f : Freely w (length (part_leaves b.order))
    f = b.free

pub book_recalling : {w : Words} {s : State} {held : Option (Held Item)} (us : List Undo) → Book w s held → Book w (recalling s s.offers us) held
book_recalling us b = book_alike us b (record { long = refl; header = λ i h. refl; slots = λ i l h. refl })

-- ---- both
pub form_alike : {w w' : Words} {s : State} {held : Option (Held Item)} → Form w s held → Alike s.capacity w w' → Form w' s held
form_alike {w} {w'} {s} f a =
    let room = alike_cap f.book.capacity (alike_offers a) in
    let c = f.book.capacity in
    record {
      book = book_alike s.memory f.book (alike_offers a);
      memory =
          record {
            ring = ring_alike (record {
              room = room;
              last = a.words last_entry_word (omega arith);
              count = a.words remembered_word (omega arith);
              ring = λ i l h. a.words i (omega (arith, h, c));
            }) f.memory.ring;
            undoable = f.memory.undoable;
          };
    }
