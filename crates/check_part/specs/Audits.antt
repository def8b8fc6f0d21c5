-- The form of a book, put together from its tree of offers, its order, its numbers, its free slots and its memory: the ways through the code that looks
-- for it.
use Rattle.std.specs.Prelude.{◌≡◌, refl, Bool, true, false, None, Some, ℕ, ◌≤◌, ◌<◌, length}
use Rattle.std.proofs.Math.Path.{sym, ap, subst}
use Rattle.std.proofs.Common.{◌∙◌, arith}
use mathlib.Core.List.{List, [], map, Pairwise}
use Rattle.std.proofs.Math.Option.{Option}
use Rattle.lists.specs.Bools.{never}
use Rattle.trees.specs.Operations.{part_leaves}
use Rattle.offers.specs.Offers.{Offer}
use Rattle.plain.specs.Book.{State, Undo, Undoable}
use Rattle.plain.specs.Sound.{Sound}
use Rattle.dynamic.specs.OfferTree.{Held}
use Rattle.dynamic.specs.Valid.{book_lines}
use Rattle.table.specs.Fields.{live_count_word, most_slots}
use Rattle.table.specs.Words.{Words, word, up_to, up_to_in}
use Rattle.table.specs.Layout.{cap, cap_most}
use Rattle.table.specs.Items.{Item, Apart, offer_of}
use Rattle.form.specs.Form.{Numbered, Freely, Book, Form, FormStands, plain_offers}
use Rattle.form.specs.Memory.{Ring}
use Rattle.form.proofs.Local.{book_recalling}
use Rattle.form.specs.Live.{book_sound}
use Rattle.check_trees.specs.Stretches.{span}
use Rattle.check_trees.specs.Deciding.{Decides, decides_no}
use Rattle.check_trees.specs.Laid.{items_at, AllPlaced}
use Rattle.check_trees.specs.Along.{holds_placed}
use Rattle.check_offers.specs.OffersFound.{OffersFound, Offers}
use Rattle.check_order.specs.OrderFound.{OrderFound, Order}
use Rattle.check_numbers.specs.Tallies.{Tallies}
use Rattle.check_memory.specs.Recalls.{Recalls}

-- the plain book of these offers and entries, of the capacity that the words tell
abbrev bare : Words → List Offer → List Undo → State
bare w os us = record { capacity = cap w; offers = os; memory = us }

-- ---- a book's parts

module _ {w : Words} {s : State} {held : Option (Held Item)} (b : Book w s held) where
  -- the live count reads as what it is
  book_count : {n : ℕ} → n ≡ up_to most_slots (word w live_count_word) → length (part_leaves b.order) ≡ n
  book_count e =
      sym (e ∙ ap (up_to most_slots) b.in_order.live_count
      ∙ up_to_in most_slots (length (part_leaves b.order)) (omega (arith, b.free.slots_used, cap_most w)))

  book_free : {n : ℕ} → n ≡ up_to most_slots (word w live_count_word) → Freely w n
  book_free e = subst (Freely w) (book_count e) b.free

  book_offers : OffersFound w
  book_offers = record { held = held; offers = b.offers }

  book_order : {n : ℕ} {lines : List Item} → n ≡ up_to most_slots (word w live_count_word) → lines ≡ book_lines held → OrderFound w lines n
  book_order e l = record { order = b.order; in_order = b.in_order; count = book_count e; firsts_are = l ∙ b.leaf_per_rate }

-- .. and back
book_of : {w : Words} {n : ℕ} {lines : List Item} → 1 ≤ cap w → Freely w n → (o : OffersFound w) → lines ≡ book_lines o.held → (r : OrderFound w lines n) →
    Numbered w (part_leaves r.order) → (us : List Undo) → Book w (bare w (plain_offers r.order) us) o.held
book_of {w} h f o l r m us = record {
  capacity = refl;
  some_slot = h;
  offers = o.offers;
  order = r.order;
  in_order = r.in_order;
  leaf_per_rate = sym l ∙ r.firsts_are;
  numbers = m;
  free = subst (Freely w) (sym r.count) f;
  stands_for = refl;
}

-- ---- what is remembered

-- some entries stand in the ring, and can be undone from these offers
abbrev Remembered : Words → List Offer → Type 0
Remembered w os = (us : List Undo) × Ring w us × Undoable (cap w) os us

form_remembered : {w : Words} {s : State} {held : Option (Held Item)} → Form w s held → Remembered w s.offers
form_remembered {s = s} f =
    (s.memory, f.memory.ring, subst (λ (c : ℕ). Undoable c s.offers s.memory) (sym f.book.capacity) f.memory.undoable)

bare_sound : {w : Words} {s : State} {held : Option (Held Item)} → Book w s held → Sound (bare w s.offers [])
bare_sound {w} {s} b =
    subst (λ (c : ℕ). Sound (record { capacity = c; offers = s.offers; memory = [] })) (sym b.capacity) (book_sound (book_recalling [] b))

-- ---- the ways through the code

pub audits_no_slot : {w : Words} {m : ℕ} → m ≡ cap w → m < 1 → Decides false (FormStands w)
audits_no_slot e h = decides_no (λ f. omega (arith, f.2.book.some_slot, f.2.book.capacity))

module _ {w : Words} {n : ℕ} (e : n ≡ up_to most_slots (word w live_count_word)) {f : Bool} (F : Decides f (Freely w n)) where
  pub audits_no_free : f ≡ false → Decides false (FormStands w)
  audits_no_free k = decides_no (λ b. never (F.complete (book_free b.2.book e)) k)

  module _ {xs xs₁ : List ℕ} where
    pub audits_no_offers : Offers w xs xs₁ None → Decides false (FormStands w)
    audits_no_offers O = decides_no (λ b. never (O.told.complete (book_offers b.2.book)) refl)

    module _ {m : ℕ} (O : Offers w xs xs₁ (Some m)) {xs₂ : List ℕ} {d : Bool} (R : Order w xs₁ xs₂ m n d) where
      -- the order, over the leaves of the tree of offers
      abbrev Found : Type 0
      Found = OrderFound w (items_at w (span xs₁ 0 m)) n

      found_order : FormStands w → Found
      unfolding book_offers
      found_order b = book_order b.2.book e (O.listed (book_offers b.2.book))

      pub audits_no_order : d ≡ false → Decides false (FormStands w)
      audits_no_order k = decides_no (λ b. never (R.told.complete (found_order b)) k)

      module _ (kd : d ≡ true) {q : Bool} (M : Recalls w xs₂ n q) where
        live : (s : Found) → part_leaves s.order ≡ items_at w (span xs₂ 0 n)
        live s = sym (R.listed kd s)

        -- the offers that it was asked of
        asked_of : (b : FormStands w) → b.0.offers ≡ map offer_of (items_at w (span xs₂ 0 n))
        unfolding book_order found_order
        asked_of b = sym b.2.book.stands_for ∙ ap (map offer_of) (live (found_order b))

        remembers : FormStands w → q ≡ true
        remembers b = (M.told b.0.offers (asked_of b) (bare_sound b.2.book)).complete (form_remembered b.2)

        pub audits_no_memory : q ≡ false → Decides false (FormStands w)
        audits_no_memory k = decides_no (λ b. never (remembers b) k)

        pub audits_all : {c : ℕ} {xs₃ : List ℕ} {r : Bool} → c ≡ cap w → (c < 1 → ⊥) → f ≡ true → q ≡ true → Tallies w xs₂ xs₃ n r →
            Decides r (FormStands w)
        unfolding book_offers book_order found_order
        audits_all {c} {xs₃} {r} em some_slot kf kq N = record { sound = found; complete = λ b. passes b }
          where
            placed : Found → AllPlaced w (items_at w (span xs₂ 0 n))
            placed s = subst (AllPlaced w) (live s) (holds_placed s.in_order.slots s.in_order.holds)

            apart : Found → Pairwise Apart (items_at w (span xs₂ 0 n))
            apart s = subst (Pairwise Apart) (live s) s.in_order.slots.apart

            found : r ≡ true → FormStands w
            found k =
                let offers = O.told.sound refl in
                let s = R.told.sound kd in
                let slot : 1 ≤ cap w = omega arith in
                let numbers = subst (Numbered w) (sym (live s)) (N.sound (placed s) (apart s) k) in
                let book = book_of slot (F.sound kf) offers (O.listed offers) s numbers in
                let (us, ring, undoable) = (M.told (plain_offers s.order) (ap (map offer_of) (live s)) (book_sound (book []))).sound kq in
                (bare w (plain_offers s.order) us, offers.held, record { book = book us; memory = record { ring = ring; undoable = undoable } })

            passes : FormStands w → r ≡ true
            passes b = let s = found_order b in N.complete (placed s) (apart s) (subst (Numbered w) (live s) b.2.book.numbers)
