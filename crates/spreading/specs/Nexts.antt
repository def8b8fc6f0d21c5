-- The offer behind one in order, where it has the same rate and is below: as the code finds it, and what that tells of the live items behind.
use Rattle.std.specs.Prelude.{◌≡◌, refl, Bool, true, false, not, ℕ, ◌<◌, ◌≤◌, T, ℤ, ◌*ℤ◌}
use Rattle.std.proofs.Common.{sym, ◌∙◌, ap, subst, inr, arith}
use mathlib.Core.List.Memᴰ
use mathlib.Core.List.Pairwise
use mathlib.Core.List.{List, [], ◌∷◌, ◌++◌, Memᴰ, Pairwise}
use Rattle.std.proofs.Math.Option.{Option}
use Rattle.std.specs.Int.Signed.{le_z, lt_z}
use Rattle.lists.specs.Bools.{said, denied, not_not}
use Rattle.integers.specs.Parts.{int_rules, add_parts}
use Rattle.offers.specs.Offers.{load_in_range, price_at, ahead}
use Rattle.offers.specs.Order.{Ahead, ahead_said, rate_falls, base_rises}
use Rattle.plain.specs.Book.{State}
use Rattle.trees.specs.Operations.{part_leaves}
use Rattle.dynamic.specs.OfferTree.{Held}
use Rattle.firsts.specs.Runs.{Stands, Stops}
use Rattle.table.specs.Fields.{most_nodes, order_root_word, order_tree, rate_field}
use Rattle.table.specs.Words.{Words, word, up_to}
use Rattle.table.specs.Layout.{cell}
use Rattle.table.specs.Items.{Item, offer_of}
use Rattle.descents.specs.Ends.{Ended}
use Rattle.pieces.specs.Pieces.{items, rate_of}
use Rattle.form.specs.Form.{Book}
use Rattle.form.specs.Live.{ranks_ahead}
use Rattle.form.specs.HeaderWords.{order_read}
use Rattle.query.specs.Readings.{price_in}
use Rattle.query.specs.QueriedPieces.{price_kept}
use Rattle.gathering.specs.Limits.{cheap_at}
use Rattle.spreading.specs.Neighbours.{Behind, HeadSlot, head_is}

-- the offer behind that in slot s, whether its rate is as high, and whether it is below; the last one in order is in slot `last`
pub data NextBelow (w : Words) (q p : ℤ) (s last y : ℕ) : Type 0 where
  no_follower : {b : ℕ} → Behind w s last b → b < 1 → y ≡ 0 → NextBelow w q p s last y
  lower_rate : {b : ℕ} {rate : ℤ} {r : Bool} → Behind w s last b → 1 ≤ b →
      rate ≡ cell w rate_field s → r ≡ le_z rate (cell w rate_field b) → not r ≡ true → y ≡ 0 → NextBelow w q p s last y
  follower_below : {b : ℕ} {rate : ℤ} {r t : Bool} → Behind w s last b → 1 ≤ b →
      rate ≡ cell w rate_field s → r ≡ le_z rate (cell w rate_field b) → not r ≡ false →
      t ≡ lt_z (price_in w b q) p → t ≡ true → y ≡ b → NextBelow w q p s last y
  follower_dear : {b : ℕ} {rate : ℤ} {r t : Bool} → Behind w s last b → 1 ≤ b →
      rate ≡ cell w rate_field s → r ≡ le_z rate (cell w rate_field b) → not r ≡ false →
      t ≡ lt_z (price_in w b q) p → t ≡ false → y ≡ 0 → NextBelow w q p s last y

-- the last one in order is in that slot
abbrev pub LastOf : Words → ℕ → Type 0
LastOf w last = Ended w order_tree true (up_to most_nodes (word w order_root_word)) last

pub last_read : {w : Words} {root last : ℕ} → root ≡ up_to most_nodes (word w order_root_word) → Ended w order_tree true root last → LastOf w last
last_read {w} {root} {last} e n = subst (λ (x : ℕ). Ended w order_tree true x last) e n

-- ---- the order of live items

-- within a rate the base rises, so the price at any load does
ahead_stands : (q p : ℤ) (x y : Item) → Ahead x.offer y.offer → Stands items.before (cheap_at q p) x y
ahead_stands q p x y k =
    record { earlier = λ c t. falls (rate_of c) (rate_of x) (rate_of y) (rate_falls k) t; settled = λ n t. same_rate n (rate_falls k) t }
  where
    falls : (r s t : ℤ) → T (le_z t s) → T (lt_z r t) → T (lt_z r s)
    falls r s t h u = omega (arith, int_rules)

    same_rate : T (not (lt_z (rate_of y) (rate_of x))) → T (le_z (rate_of y) (rate_of x)) → T (lt_z (price_at y.offer q) p) → T (lt_z (price_at x.offer q) p)
    same_rate n h t =
        let e : x.offer.rate ≡ y.offer.rate = omega (arith, int_rules) in
        let b = base_rises (inr k) e in
        let d : x.offer.rate *ℤ q ≡ y.offer.rate *ℤ q = ap (λ r. r *ℤ q) e in
        omega (arith, int_rules, add_parts x.offer.base (x.offer.rate *ℤ q), add_parts y.offer.base (y.offer.rate *ℤ q))

module _ {w : Words} {plain : State} {held : Option (Held Item)} (b : Book w plain held) where
  in_order : Pairwise (λ x y. T (ahead (offer_of x) (offer_of y))) (part_leaves b.order)
  in_order = ranks_ahead b.in_order.holds b.in_order.order_in.falling

  pub live_stand : (q p : ℤ) → Pairwise (Stands items.before (cheap_at q p)) (part_leaves b.order)
  live_stand q p = Pairwise.imp (λ x y t. ahead_stands q p x y (ahead_said (offer_of x) (offer_of y) t)) in_order

-- ---- what the code finds

-- y is the slot of the head, which has the rate of a and is below, or 0, and the walk from a stops
pub data Turns (q p : ℤ) (a : Item) (y : ℕ) : List Item → Type 0 where
  goes_on : (c : Item) (rest : List Item) → y ≡ c.slot → T (not (items.before a c)) → T (cheap_at q p c) → Turns q p a y (c ∷ rest)
  goes_off : {post : List Item} → y ≡ 0 → Stops items.before (cheap_at q p) a post → Turns q p a y post

module _
    {w : Words} {plain : State} {held : Option (Held Item)} (b : Book w plain held) (front : List Item) (a : Item) (q p : ℤ) (range : T (load_in_range q))
    {s last : ℕ} (end : LastOf w last) (es : s ≡ a.slot) where
  inside : {x : Item} {post : List Item} → part_leaves b.order ≡ front ++ a ∷ post → Memᴰ x (a ∷ post) → Memᴰ x (part_leaves b.order)
  inside {x} cut m = subst (Memᴰ x) (sym cut) (Memᴰ.append_right front m)

  second : (c : Item) (rest : List Item) → part_leaves b.order ≡ front ++ a ∷ c ∷ rest → Memᴰ c (part_leaves b.order)
  second c rest cut = inside cut (Memᴰ.tail (Memᴰ.head refl))

  -- what is found behind a is the head
  found : (post : List Item) {d : ℕ} → part_leaves b.order ≡ front ++ a ∷ post → Behind w s last d → HeadSlot d post
  found post cut f =
      head_is b.order
      (record { kind = omega arith; root = order_read b; slots = b.in_order.slots; tied = b.in_order.order_in.tied })
      b.in_order.order_in.balanced end front a post cut es f

  -- its rate and its price are what the code compares
  rates_are : (c : Item) (rest : List Item) → part_leaves b.order ≡ front ++ a ∷ c ∷ rest → {d : ℕ} {rate : ℤ} {r : Bool} → d ≡ c.slot →
      rate ≡ cell w rate_field s → r ≡ le_z rate (cell w rate_field d) → r ≡ le_z (rate_of a) (rate_of c)
  rates_are c rest cut {d} e er t =
      t ∙ ap (λ (z : ℤ). le_z z (cell w rate_field d)) (er ∙ rate_in es (inside cut (Memᴰ.head refl))) ∙ ap (le_z (rate_of a)) (rate_in e (second c rest cut))
    where
      rate_in : {x : Item} {d : ℕ} → d ≡ x.slot → Memᴰ x (part_leaves b.order) → cell w rate_field d ≡ rate_of x
      rate_in e m = ap (cell w rate_field) e ∙ (b.in_order.holds.held m).rate

  cheap_is : {c : Item} {d : ℕ} {r : Bool} → d ≡ c.slot → Memᴰ c (part_leaves b.order) → r ≡ lt_z (price_in w d q) p → r ≡ cheap_at q p c
  cheap_is e m t = t ∙ ap (λ (z : ℤ). lt_z z p) (ap (λ (n : ℕ). price_in w n q) e ∙ price_kept q (b.in_order.holds.held m) range)

  pub turns : (post : List Item) → part_leaves b.order ≡ front ++ a ∷ post → {y : ℕ} → NextBelow w q p s last y → Turns q p a y post
  turns [] cut (no_follower f h e) = goes_off e tt
  turns [] cut (lower_rate f h er k u e) = goes_off e tt
  turns [] cut (follower_below f h er k u t v e) = absurd (omega (arith, found [] cut f))
  turns [] cut (follower_dear f h er k u t v e) = goes_off e tt
  turns (c ∷ rest) cut (no_follower f h e) = absurd (omega (arith, found (c ∷ rest) cut f, b.in_order.slots.low (second c rest cut)))
  turns (c ∷ rest) cut (lower_rate f h er k u e) =
      goes_off {post = c ∷ rest} e (λ n. absurd (lower (rate_of a) (rate_of c) (said (ap not (rates_are c rest cut (found (c ∷ rest) cut f) er k)) u) n))
    where
      lower : (x y : ℤ) → T (not (le_z x y)) → T (not (lt_z y x)) → ⊥
      lower x y t n = omega (arith, int_rules)
  turns (c ∷ rest) cut (follower_below f h er k u t v e) =
      goes_on c rest (e ∙ found (c ∷ rest) cut f) (level (rate_of a) (rate_of c) (denied (ap not (rates_are c rest cut (found (c ∷ rest) cut f) er k)) u))
      (said (cheap_is (found (c ∷ rest) cut f) (second c rest cut) t) v)
    where
      level : (x y : ℤ) → T (not (not (le_z x y))) → T (not (lt_z y x))
      level x y t = let u = not_not (le_z x y) t in omega (arith, int_rules)
  turns (c ∷ rest) cut (follower_dear f h er k u t v e) =
      goes_off {post = c ∷ rest} e (λ n. denied (cheap_is (found (c ∷ rest) cut f) (second c rest cut) t) v)
