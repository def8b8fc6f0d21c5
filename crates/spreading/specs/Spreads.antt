-- The slots of all offers below a price, put rate by rate: from the first of each rate its followers, as long as they are below.
use Rattle.std.specs.Prelude.{◌≡◌, refl, ℕ, suc, ◌+◌, ◌≤◌, ◌<◌, T, ℤ, length, get_or, set}
use Rattle.std.proofs.Common.{sym, ◌∙◌, ap, subst, add-one, arith, length-set, length-append, get_or-set_same, get_or-set_other}
use mathlib.Core.List.{List, [], ◌∷◌, ◌++◌, append_assoc, append-nil, map, map-append, head-eq_of_cons-eq, tail-eq_of_cons-eq}
use mathlib.Core.List.Memᴰ
use mathlib.Core.List.{Memᴰ, Pairwise, rel_of_Pairwise-cons}
use Rattle.std.proofs.Math.Option.{Option}
use Rattle.std.proofs.lemmas.List.{length-map}
use Rattle.lists.specs.Bools.{cond_yes}
use Rattle.lists.specs.Filter.{keep, keep_append, keep_sublist}
use Rattle.lists.specs.Members.{sub_length}
use Rattle.offers.specs.Offers.{load_in_range}
use Rattle.plain.specs.Book.{State}
use Rattle.trees.specs.Operations.{part_leaves}
use Rattle.trees.specs.Order.{parted}
use Rattle.dynamic.specs.OfferTree.{Held}
use Rattle.dynamic.specs.Valid.{book_lines}
use Rattle.firsts.specs.Runs.{Stands, behind, Resumes, resumes_nowhere, resumes_at}
use Rattle.firsts.proofs.Runs.{behind_next, skipping, starting}
use Rattle.table.specs.Fields.{most_slots}
use Rattle.table.specs.Words.{Words}
use Rattle.table.specs.Layout.{cap, cap_most}
use Rattle.table.specs.Items.{Item, slot_of, slots_most}
use Rattle.pieces.specs.Pieces.{items}
use Rattle.form.specs.Form.{Book}
use Rattle.gathering.specs.Limits.{cheap_at}
use Rattle.check_trees.specs.Stretches.{span, span_length, span_none, span_cut, span_cons, span_one, span_same}
use Rattle.spreading.specs.Nexts.{NextBelow, LastOf, Turns, goes_on, goes_off, turns, live_stand}

-- the slots of those that are below
abbrev pub slots_below : ℤ → ℤ → List Item → List ℕ
slots_below q p xs = map slot_of (keep (cheap_at q p) xs)

-- the promise: from the slots of the firsts that are below, those of all live items that are
pub record Spreads (w : Words) (q p : ℤ) (xs ys ys' : List ℕ) (n m : ℕ) : Type 0 where
  pub long : length ys' ≡ length ys
  pub is : (s : State) (held : Option (Held Item)) (b : Book w s held) → T (load_in_range q) → span xs 0 n ≡ slots_below q p (book_lines held) →
      span ys' 0 m ≡ slots_below q p (part_leaves b.order)

-- ---- one more slot

put_one : (ys : List ℕ) (m s : ℕ) → m < length ys → span (set ys m s) 0 (m + 1) ≡ span ys 0 m ++ s ∷ []
put_one ys m s h =
    ap (span (set ys m s) 0) (add-one m) ∙ span_cut (set ys m s) 0 m (suc m) (omega arith) (omega arith)
    ∙ ap (λ (l : List ℕ). l ++ span (set ys m s) m (suc m)) (span_same (set ys m s) ys 0 m (λ i j k. get_or-set_other ys m i s 0 (omega arith)))
    ∙ ap (λ (l : List ℕ). span ys 0 m ++ l) (span_one (set ys m s) m ∙ ap (λ (z : ℕ). z ∷ []) (get_or-set_same ys m s 0 h))

-- that of an item that is below
module _ (q p : ℤ) where
  slots_append : (xs zs : List Item) → slots_below q p (xs ++ zs) ≡ slots_below q p xs ++ slots_below q p zs
  slots_append xs zs = ap (map slot_of) (keep_append (cheap_at q p) xs zs) ∙ map-append slot_of (keep (cheap_at q p) xs) (keep (cheap_at q p) zs)

  slots_one : (front : List Item) (a : Item) → T (cheap_at q p a) → slots_below q p (front ++ a ∷ []) ≡ slots_below q p front ++ a.slot ∷ []
  slots_one front a t =
      slots_append front (a ∷ []) ∙ ap (λ (l : List Item). slots_below q p front ++ map slot_of l) (cond_yes (cheap_at q p a) (a ∷ []) [] t)

  slots_none : (front xs : List Item) → keep (cheap_at q p) xs ≡ [] → slots_below q p (front ++ xs) ≡ slots_below q p front
  slots_none front xs e =
      slots_append front xs ∙ ap (λ (l : List Item). slots_below q p front ++ map slot_of l) e ∙ append-nil (slots_below q p front)

  -- those in front of an item, and the item
  one_more : (front : List Item) (a : Item) (ys : List ℕ) (m s : ℕ) → m < length ys → s ≡ a.slot → T (cheap_at q p a) →
      span ys 0 m ≡ slots_below q p front → span (set ys m s) 0 (m + 1) ≡ slots_below q p (front ++ a ∷ [])
  one_more front a ys m s room es t put =
      put_one ys m s room ∙ ap (λ (l : List ℕ). l ++ s ∷ []) put ∙ ap (λ (z : ℕ). slots_below q p front ++ z ∷ []) es ∙ sym (slots_one front a t)

-- ---- on the way

-- At an item that is below, with those below in front of it put, and the firsts behind it that are below to come; or all are put.
pub data Midway (q p : ℤ) (live : List Item) (xs ys : List ℕ) (n i m s : ℕ) : Type 0 where
  at_one : (front : List Item) (a : Item) (post : List Item) → live ≡ front ++ a ∷ post → s ≡ a.slot → T (cheap_at q p a) → i < n →
      span ys 0 m ≡ slots_below q p front → span xs (suc i) n ≡ slots_below q p (behind items.before (cheap_at q p) a post) → Midway q p live xs ys n i m s
  at_end : n ≤ i → span ys 0 m ≡ slots_below q p live → Midway q p live xs ys n i m s

-- the firsts to come are those behind
resuming : (q p : ℤ) (live : List Item) {xs ys : List ℕ} {n i m s : ℕ} (front : List Item) {post gs : List Item} →
    Resumes items.before (cheap_at q p) post gs → live ≡ front ++ post → span ys 0 m ≡ slots_below q p front → span xs i n ≡ map slot_of gs →
    (i < n → s ≡ get_or xs i 0) → Midway q p live xs ys n i m s
resuming q p live {xs} {ys} {n} {i} front (resumes_nowhere {xs = post} e) cut put to-come is =
    at_end (omega (arith, span_length xs i n, ap length to-come)) (put ∙ sym (slots_none q p front post e) ∙ ap (slots_below q p) (sym cut))
resuming q p live {xs} {ys} {n} {i} front (resumes_at skipped a post e t) cut put to-come is =
    at_one (front ++ skipped) a post (cut ∙ sym (append_assoc front skipped (a ∷ post))) (is more ∙ head-eq_of_cons-eq both) t more
    (put ∙ sym (slots_none q p front skipped e)) (tail-eq_of_cons-eq both)
  where
    more : i < n
    more = omega (arith, span_length xs i n, ap length to-come)

    both : get_or xs i 0 ∷ span xs (suc i) n ≡ a.slot ∷ slots_below q p (behind items.before (cheap_at q p) a post)
    both = sym (span_cons xs i n more) ∙ to-come

module _ {w : Words} {plain : State} {held : Option (Held Item)} (b : Book w plain held) (q p : ℤ) where
  begins : {xs ys : List ℕ} {n s : ℕ} → span xs 0 n ≡ slots_below q p (book_lines held) → (0 < n → s ≡ get_or xs 0 0) →
      Midway q p (part_leaves b.order) xs ys n 0 0 s
  begins {ys = ys} firsts is =
      resuming q p (part_leaves b.order) [] (starting items.before (cheap_at q p) (part_leaves b.order) (live_stand b q p)) refl
      (span_none ys 0 0 (omega arith)) (firsts ∙ ap (slots_below q p) b.leaf_per_rate) is

  behind_stand : (front : List Item) (a : Item) (post : List Item) → part_leaves b.order ≡ front ++ a ∷ post →
      Pairwise (Stands items.before (cheap_at q p)) (a ∷ post)
  behind_stand front a post cut = (parted front (subst (Pairwise (Stands items.before (cheap_at q p))) cut (live_stand b q p))).right

  module _ {xs ys : List ℕ} {n i m s : ℕ} where
    -- the room is never used up
    has_room : Midway q p (part_leaves b.order) xs ys n i m s → i < n → m < most_slots
    has_room (at_end h put) more = absurd (omega arith)
    has_room (at_one front a post cut es t h put to-come) more =
        omega (
          arith,
          span_length ys 0 m,
          ap length put,
          length-map (keep (cheap_at q p) front) slot_of,
          sub_length (keep_sublist (cheap_at q p) front),
          ap length cut,
          length-append front (a ∷ post),
          slots_most (cap w) (part_leaves b.order) b.in_order.slots,
          cap_most w,
        )

    all_put : Midway q p (part_leaves b.order) xs ys n i m s → n ≤ i → span ys 0 m ≡ slots_below q p (part_leaves b.order)
    all_put (at_end h put) none = put
    all_put (at_one front a post cut es t h put to-come) none = absurd (omega arith)

    module _ (room : m < length ys) (range : T (load_in_range q)) {last : ℕ} (end : LastOf w last) where
      -- to the next of the rate
      goes_to : {y : ℕ} → Midway q p (part_leaves b.order) xs ys n i m s → i < n → NextBelow w q p s last y → 1 ≤ y →
          Midway q p (part_leaves b.order) xs (set ys m s) n i (m + 1) y
      goes_to (at_end h put) more next some = absurd (omega arith)
      goes_to {y} (at_one front a post cut es t h put to-come) more next some = go cut to-come (turns b front a q p range end es post cut next)
        where
          go : {post : List Item} → part_leaves b.order ≡ front ++ a ∷ post →
              span xs (suc i) n ≡ slots_below q p (behind items.before (cheap_at q p) a post) →
              Turns q p a y post → Midway q p (part_leaves b.order) xs (set ys m s) n i (m + 1) y
          go cut to-come (goes_off e k) = absurd (omega arith)
          go cut to-come (goes_on c rest e k u) =
              at_one (front ++ a ∷ []) c rest (cut ∙ sym (append_assoc front (a ∷ []) (c ∷ rest))) e u h (one_more q p front a ys m s room es t put)
              (to-come ∙ ap (slots_below q p) (behind_next items.before (cheap_at q p) rest
              (rel_of_Pairwise-cons (behind_stand front a (c ∷ rest) cut) ∣ Memᴰ.head refl ∣₁) k))

      -- to the next first
      goes_past : {y z : ℕ} → Midway q p (part_leaves b.order) xs ys n i m s → i < n → NextBelow w q p s last y → y < 1 →
          (i + 1 < n → z ≡ get_or xs (i + 1) 0) → Midway q p (part_leaves b.order) xs (set ys m s) n (i + 1) (m + 1) z
      goes_past (at_end h put) more next none is = absurd (omega arith)
      goes_past {y} {z} (at_one front a post cut es t h put to-come) more next none is = go cut to-come (turns b front a q p range end es post cut next)
        where
          go : {post : List Item} → part_leaves b.order ≡ front ++ a ∷ post →
              span xs (suc i) n ≡ slots_below q p (behind items.before (cheap_at q p) a post) →
              Turns q p a y post → Midway q p (part_leaves b.order) xs (set ys m s) n (i + 1) (m + 1) z
          go {post} cut to-come (goes_off e k) =
              resuming q p (part_leaves b.order) (front ++ a ∷ []) (skipping items.before (cheap_at q p) a post (behind_stand front a post cut) k)
              (cut ∙ sym (append_assoc front (a ∷ []) post)) (one_more q p front a ys m s room es t put) (ap (λ (j : ℕ). span xs j n) (add-one i) ∙ to-come) is
          go cut to-come (goes_on c rest e k u) =
              absurd (omega (arith, b.in_order.slots.low (subst (Memᴰ c) (sym cut) (Memᴰ.append_right front (Memᴰ.tail (Memᴰ.head refl))))))

-- ---- the loop

pub record Spreading (w : Words) (q p : ℤ) (xs ys₀ ys : List ℕ) (n i m s : ℕ) : Type 0 where
  pub within : m ≤ most_slots
  pub long : length ys ≡ length ys₀
  pub midway : (plain : State) (held : Option (Held Item)) (b : Book w plain held) → T (load_in_range q) → span xs 0 n ≡ slots_below q p (book_lines held) →
      Midway q p (part_leaves b.order) xs ys n i m s

module _ {w : Words} (q p : ℤ) {xs : List ℕ} (ys₀ : List ℕ) {n : ℕ} (few : n ≤ most_slots) where
  pub spreading_begins : {s : ℕ} → (0 < most_slots → s ≡ get_or xs 0 0) → Spreading w q p xs ys₀ ys₀ n 0 0 s
  spreading_begins is =
      record { within = omega arith; long = refl; midway = λ plain held b range firsts. begins b q p firsts (λ h. is (omega arith)) }

  module _ {ys : List ℕ} {i m s : ℕ} (g : Spreading w q p xs ys₀ ys n i m s) where
    -- no book's words come here
    pub spreading_full : i < n → most_slots ≤ m → {r : ℕ} → Spreads w q p xs ys₀ ys n r
    spreading_full more full =
        record { long = g.long; is = λ plain held b range firsts. absurd (omega (arith, has_room b q p (g.midway plain held b range firsts) more)) }

    pub spreading_ends : n ≤ i → Spreads w q p xs ys₀ ys n m
    spreading_ends none = record { long = g.long; is = λ plain held b range firsts. all_put b q p (g.midway plain held b range firsts) none }

    module _ (size : length ys₀ ≡ most_slots) (more : i < n) (room : m < most_slots) {last : ℕ} (end : LastOf w last) where
      pub spreading_goes_to : {y : ℕ} → NextBelow w q p s last y → 1 ≤ y → Spreading w q p xs ys₀ (set ys m s) n i (m + 1) y
      spreading_goes_to next some =
          record {
            within = omega arith;
            long = length-set ys m s ∙ g.long;
            midway = λ plain held b range firsts. goes_to b q p (omega (arith, g.long)) range end (g.midway plain held b range firsts) more next some;
          }

      pub spreading_goes_past : {y z : ℕ} → NextBelow w q p s last y → y < 1 → (i + 1 < most_slots → z ≡ get_or xs (i + 1) 0) →
          Spreading w q p xs ys₀ (set ys m s) n (i + 1) (m + 1) z
      spreading_goes_past next none is =
          record {
            within = omega arith;
            long = length-set ys m s ∙ g.long;
            midway = λ plain held b range firsts.
                goes_past b q p (omega (arith, g.long)) range end (g.midway plain held b range firsts) more next none (λ h. is (omega arith));
          }
