-- What a part's form says of the leaves of its tree of offers and of its live items; and the plain book that it stands for is sound.
use Rattle.std.specs.Prelude.{◌≡◌, refl, ◌≢◌, Bool, ℕ, ◌≤◌, length, T}
use Rattle.std.proofs.Common.{ap, subst, sym, ◌∙◌, arith}
use Rattle.std.proofs.Math.Logic.{∥∥₁_elim}
use mathlib.Core.HLevel.{¬_prop}
use mathlib.Core.List.Memᴰ
use mathlib.Core.List.Pairwise
use mathlib.Core.List.{List, [], ◌∷◌, map, Memᴰ, Pairwise}
use Rattle.std.proofs.Math.Option.{Option, none, some}
use Rattle.std.proofs.lemmas.List.{length-map}
use Rattle.std.proofs.Math.Dec.{T_prop}
use Rattle.lists.specs.Members.{one_owner, sub_length}
use Rattle.lists.specs.Places.{sublist_mem}
use Rattle.lists.specs.Firsts.{firsts, firsts_sub, firsts_map}
use Rattle.offers.specs.Offers.{Offer, offer_in_range, precedes, ahead}
use Rattle.offers.specs.Order.{ahead_meant}
use Rattle.offers.proofs.Ranks.{rank_ahead}
use Rattle.envelopes.specs.Envelope.{Ordered, ordered_nil}
use Rattle.plain.specs.Book.{State, first_of_each}
use Rattle.plain.specs.FirstLaws.{self, pairs_standing, cover}
use Rattle.trees.specs.Operations.{part_leaves}
use Rattle.trees.specs.Order.{Falling, falling_one}
use Rattle.plain.specs.Sound.{Sound}
use Rattle.dynamic.specs.OfferTree.{Held}
use Rattle.dynamic.specs.Valid.{WholeBook, book_lines}
use Rattle.table.specs.Words.{Words}
use Rattle.table.specs.Layout.{cap_most}
use Rattle.table.specs.Items.{Item, offer_of, Slots}
use Rattle.table.specs.Threads.{Holds}
use Rattle.pieces.specs.Pieces.{items}
use Rattle.form.specs.Form.{Book, OffersIn, number_of, rank_of}

-- ---- the leaves of the tree of offers

module _ (w : Words) where
  pub lines_whole : (held : Option (Held Item)) → OffersIn w held → WholeBook items held
  lines_whole none o = tt
  lines_whole (some h) o = o.right

pub whole_ordered : (held : Option (Held Item)) → WholeBook items held → Ordered items (book_lines held)
whole_ordered none o = ordered_nil
whole_ordered (some h) o = o.ordered

-- ---- no two have one number

-- a slot tells its item
pub slot_tells : {c : ℕ} {xs : List Item} → Slots c xs → {a b : Item} → Memᴰ a xs → Memᴰ b xs → a.slot ≡ b.slot → a ≡ b
slot_tells s m n e = one_owner (λ (a : Item). a.slot) s.apart m n e

module _ {w : Words} {plain : State} {held : Option (Held Item)} (b : Book w plain held) where
  -- a number tells the live item
  pub number_tells : {x y : Item} → Memᴰ x (part_leaves b.order) → Memᴰ y (part_leaves b.order) → number_of x ≡ number_of y → x ≡ y
  number_tells m n e = falling_one number_of b.numbers.numbers_in.falling (b.numbers.numbers_in.all_there _ m) (b.numbers.numbers_in.all_there _ n) e

  numbers_apart : Pairwise (λ x y. number_of x ≢ number_of y) (part_leaves b.order)
  numbers_apart =
      Pairwise.imp_of_mem (λ x y m n d e. ∥∥₁_elim m (λ p q. absurd p)
      (λ i. ∥∥₁_elim n (λ p q. absurd p) (λ j. d (ap (λ (a : Item). a.slot) (number_tells i j e)))))
      b.in_order.slots.apart

-- ---- the leaves of the tree of offers among the live items

module _ {w : Words} {plain : State} {held : Option (Held Item)} (b : Book w plain held) where
  -- each is live
  pub line_live : {a : Item} → Memᴰ a (book_lines held) → Memᴰ a (part_leaves b.order)
  line_live {a} m = sublist_mem (firsts_sub items.before (part_leaves b.order)) (subst (Memᴰ a) b.leaf_per_rate m)

  -- so there are at most as many
  pub lines_most : length (book_lines held) ≤ length (part_leaves b.order)
  lines_most = omega (arith, ap length b.leaf_per_rate, sub_length (firsts_sub items.before (part_leaves b.order)))

  -- they hold the first offer of each rate
  pub first_offers : map offer_of (book_lines held) ≡ first_of_each plain.offers
  first_offers =
      ap (map offer_of) b.leaf_per_rate ∙ sym (firsts_map precedes offer_of (part_leaves b.order)) ∙ ap first_of_each b.stands_for

-- ---- the plain book

-- falling ranks are the order
pub ranks_ahead : {w : Words} {xs : List Item} → Holds w xs → Falling rank_of xs → Pairwise (λ x y. T (ahead (offer_of x) (offer_of y))) xs
ranks_ahead h f =
    Pairwise.imp_of_mem (λ x y m n t. ∥∥₁_elim m (λ p q. T_prop (ahead (offer_of x) (offer_of y)) p q)
    (λ i. ∥∥₁_elim n (λ p q. T_prop (ahead (offer_of x) (offer_of y)) p q)
    (λ j. ahead_meant (offer_of x) (offer_of y) (rank_ahead (offer_of x) (offer_of y) (h.held i).ranged (h.held j).ranged t))))
    f

-- it has as many offers as there are live items
pub live_length : {w : Words} {plain : State} {held : Option (Held Item)} (b : Book w plain held) → length plain.offers ≡ length (part_leaves b.order)
live_length b = ap length (sym b.stands_for) ∙ length-map (part_leaves b.order) offer_of

pub book_sound : {w : Words} {plain : State} {held : Option (Held Item)} → Book w plain held → Sound plain
book_sound {w} {plain} {held} b =
    record {
      capacity_low = b.some_slot;
      capacity_high = omega (arith, b.capacity, cap_most w);
      ordered = subst (Pairwise (λ x y. T (ahead x y))) b.stands_for (Pairwise.map (λ x y. T_prop (ahead x y)) offer_of (λ x y t. t)
          (ranks_ahead b.in_order.holds b.in_order.order_in.falling));
      numbered = subst (Pairwise (λ x y. x.number ≢ y.number)) b.stands_for (Pairwise.map (λ x y. ¬_prop) offer_of (λ x y d. d) (numbers_apart b));
      ranged = λ o m.
          let (a, i, e) = Memᴰ.of_map offer_of (part_leaves b.order) (subst (Memᴰ o) (sym b.stands_for) m) in
          subst (λ (o : Offer). T (offer_in_range o)) e (b.in_order.holds.held i).ranged;
      fits = omega (arith, b.free.slots_used, b.capacity, live_length b);
    }

-- ---- lines and live offers

no_first : {A : Type 0} (before : A → A → Bool) (xs : List A) → firsts before xs ≡ [] → xs ≡ []
no_first before [] e = refl
no_first before (x ∷ xs) e = absurd (omega (arith, ap length e))

module _ {w : Words} {plain : State} {held : Option (Held Item)} (b : Book w plain held) where
  -- the rates fall along the lines
  pub lines_ordered : Ordered items (book_lines held)
  lines_ordered = whole_ordered held (lines_whole w held b.offers.offers_in)

  -- no line, no live offer
  pub no_offers : book_lines held ≡ [] → plain.offers ≡ []
  no_offers e = sym b.stands_for ∙ ap (map offer_of) (no_first items.before (part_leaves b.order) (sym b.leaf_per_rate ∙ e))

  -- at most as many lines
  pub lines_few : length (book_lines held) ≤ length plain.offers
  lines_few = omega (arith, lines_most b, live_length b)

  -- a line's offer is live
  pub line_offer : {a : Item} → Memᴰ a (book_lines held) → Memᴰ a.offer plain.offers
  line_offer {a} m = subst (Memᴰ a.offer) b.stands_for (Memᴰ.map offer_of (line_live b m))

  -- and a live offer's rate has a line
  pub line_of_rate : {o : Offer} → Memᴰ o plain.offers → (a : Item) × Memᴰ a (book_lines held) × (a.offer.rate ≡ o.rate)
  line_of_rate {o} m =
      let c = cover Offer self (pairs_standing Offer self (book_sound b).ordered) o m in
      let (a, i, e) = Memᴰ.of_map offer_of (book_lines held) (subst (Memᴰ c.by) (sym (first_offers b)) c.one_of) in
      (a, i, ap (λ (p : Offer). p.rate) e ∙ c.rate)
