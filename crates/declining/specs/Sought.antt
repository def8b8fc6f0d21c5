-- What the searches for a number and for a rate tell of the live items.
use Rattle.std.specs.Prelude.{◌≡◌, ◌≢◌, Bool, true, false, not, ℕ, T, ℤ}
use Rattle.std.proofs.Common.{◌∙◌, ap, arith}
use mathlib.Core.List.Memᴰ
use mathlib.Core.List.{List, map, Memᴰ}
use Rattle.std.proofs.Math.Option.{Option, none, some}
use Rattle.std.proofs.Math.Dec.{not_T}
use Rattle.lists.specs.Tests.{any, any_some, not_any, none_at}
use Rattle.lists.specs.Bools.{not_failed}
use Rattle.integers.specs.Equal.{equal}
use Rattle.integers.specs.Parts.{equal_eq, unequal}
use Rattle.offers.specs.Offers.{Offer}
use Rattle.plain.specs.Book.{State}
use Rattle.envelopes.specs.EnvelopeLaws.{ordered_pairs}
use Rattle.trees.specs.Tree.{leaves}
use Rattle.trees.specs.Operations.{find, part_leaves}
use Rattle.trees.specs.Order.{Falling}
use Rattle.trees.specs.Find.{find_complete, none_find}
use Rattle.dynamic.specs.OfferTree.{Held, held_shape}
use Rattle.dynamic.specs.Valid.{book_lines}
use Rattle.table.specs.Fields.{most_nodes, number_field, number_tree, numbers_root_word, offer_tree, order_root_word, order_tree, rank_field, rate_field}
use Rattle.table.specs.Words.{Words, word, up_to}
use Rattle.table.specs.Items.{Item, Slots}
use Rattle.descents.specs.Finds.{Found, found_at}
use Rattle.pieces.specs.Pieces.{rate_of}
use Rattle.form.specs.Form.{Book, OffersIn, number_of, rank_of, offers_ref}
use Rattle.form.specs.Roots.{offers_root}
use Rattle.index.specs.Index.{IndexAt, FoundKey, by_number, by_rank}
use Rattle.table.specs.Items.{offer_of}
use Rattle.table.specs.Keys.{keyed_numbers}
use Rattle.form.specs.HeaderWords.{offers_read, numbers_read, order_read}

-- ---- some live offer has a key, or none has

module _ (key : Offer → ℤ) (n : ℤ) (live : List Item) where
  pub keyed_any : {a : Item} → Memᴰ a live → key a.offer ≡ n → T (any (λ o. equal (key o) n) (map offer_of live))
  keyed_any {a} m e = not_failed (any (λ o. equal (key o) n) (map offer_of live))
      (λ t. unequal (key a.offer) n (none_at (λ o. equal (key o) n) (map offer_of live) t a.offer (Memᴰ.map offer_of m)) e)

  pub keyed_none : ((a : Item) → Memᴰ a live → key a.offer ≢ n) → T (not (any (λ o. equal (key o) n) (map offer_of live)))
  keyed_none h = not_any (λ o. equal (key o) n) (map offer_of live) (λ o m. not_T (equal (key o) n) (λ t. let (a, i, e) = Memᴰ.of_map offer_of live m in
      h a i (ap key e ∙ equal_eq (key o) n t)))

-- ---- what a search told

-- the slot of the live item with that key, or 0 where there is none
pub data Sought (key : Item → ℤ) (n : ℤ) (live : List Item) (s : ℕ) : Type 0 where
  at_item : {a : Item} → Memᴰ a live → key a ≡ n → s ≡ a.slot → Sought key n live s
  nowhere : ((a : Item) → Memᴰ a live → key a ≢ n) → s ≡ 0 → Sought key n live s

module _ {key : Item → ℤ} {n : ℤ} {live : List Item} {s : ℕ} where
  pub sought_item : Sought key n live s → s ≢ 0 → (a : Item) × Memᴰ a live × (key a ≡ n) × (s ≡ a.slot)
  sought_item (at_item {a} m e d) h = (a, m, e, d)
  sought_item (nowhere no_one d) h = absurd (h d)

  pub sought_none : {c : ℕ} → Slots c live → Sought key n live s → s ≡ 0 → (a : Item) → Memᴰ a live → key a ≢ n
  sought_none g (at_item m e d) h = absurd (omega (arith, g.low m))
  sought_none g (nowhere no_one d) h = no_one

-- a search that finds each live item, and nothing where there is none, told one of the two
pub sought_by :
    (key : Offer → ℤ) (n : ℤ) (live : List Item) {s : ℕ} →
    ((a : Item) → Memᴰ a live → key a.offer ≡ n → s ≡ a.slot) →
    (((a : Item) → Memᴰ a live → key a.offer ≢ n) → s ≡ 0) →
    Sought (λ a. key a.offer) n live s
sought_by key n live {s} found missing = go (any (λ o. equal (key o) n) (map offer_of live)) (λ t. t) (λ t. t)
  where
    here : T (any (λ o. equal (key o) n) (map offer_of live)) → Sought (λ a. key a.offer) n live s
    here t =
        let (o, m, u) = any_some (λ o. equal (key o) n) (map offer_of live) t in
        let (a, i, e) = Memᴰ.of_map offer_of live m in
        let k : key a.offer ≡ n = ap key e ∙ equal_eq (key o) n u in
        at_item i k (found a i k)

    gone : T (not (any (λ o. equal (key o) n) (map offer_of live))) → Sought (λ a. key a.offer) n live s
    gone t =
        let no_one : (a : Item) → Memᴰ a live → key a.offer ≢ n =
        λ a m. unequal (key a.offer) n (none_at (λ o. equal (key o) n) (map offer_of live) t a.offer (Memᴰ.map offer_of m)) in
        nowhere no_one (missing no_one)

    go : (b : Bool) → (T b → T (any (λ o. equal (key o) n) (map offer_of live))) → (T (not b) → T (not (any (λ o. equal (key o) n) (map offer_of live)))) →
        Sought (λ a. key a.offer) n live s
    go true f g = here (f tt)
    go false f g = gone (g tt)

-- ---- on a part that stands for it

module _ {w : Words} {plain : State} {held : Option (Held Item)} (b : Book w plain held) where
  -- the two indexes
  pub numbers_at : {root : ℕ} → root ≡ up_to most_nodes (word w numbers_root_word) →
      IndexAt w number_tree number_field number_of root (part_leaves b.order) b.numbers.numbers
  numbers_at e =
      record {
        index = by_number;
        root_is = e ∙ numbers_read b;
        slots = b.in_order.slots;
        holds = b.in_order.holds;
        keyed = keyed_numbers b.in_order.holds;
        index_in = b.numbers.numbers_in;
      }

  pub order_at : {root : ℕ} → root ≡ up_to most_nodes (word w order_root_word) →
      IndexAt w order_tree rank_field rank_of root (part_leaves b.order) b.order
  order_at e =
      record {
        index = by_rank;
        root_is = e ∙ order_read b;
        slots = b.in_order.slots;
        holds = b.in_order.holds;
        keyed = b.in_order.ranked;
        index_in = b.in_order.order_in;
      }

  -- ---- the two searches: of all live items by number, of the first of each rate by rate

  pub number_sought : {n : ℤ} {root s : ℕ} → FoundKey number_tree number_field n root w s → root ≡ up_to most_nodes (word w numbers_root_word) →
      Sought number_of n (part_leaves b.order) s
  number_sought {n} f e = sought_by (λ o. o.number) n (part_leaves b.order) (f.found number_of _ _ (numbers_at e)) (f.missing number_of _ _ (numbers_at e))

  pub rate_sought : {r : ℤ} {x s : ℕ} → Found w offer_tree rate_field r x s → x ≡ offers_root w → Sought rate_of r (book_lines held) s
  rate_sought {r} {x} {s} f e = go held b.offers.offers_in (e ∙ offers_read b)
    where
      go : (h : Option (Held Item)) → OffersIn w h → x ≡ offers_ref h → Sought rate_of r (book_lines h) s
      go none o d = nowhere (λ a m. absurd (Memᴰ.not-nil m)) (f.nothing d)
      go (some h) o d =
          sought_by (λ p. p.rate) r (leaves (held_shape h))
          (λ a m k. result ∙ ap found_at (find_complete rate_of r (held_shape h) falls (record { inside = m; keyed = k })))
          (λ no_one. result ∙ ap found_at (none_find rate_of r (held_shape h) (λ a q. no_one a q.inside q.keyed)))
        where
          falls : Falling rate_of (leaves (held_shape h))
          falls = ordered_pairs o.right.ordered

          result : s ≡ found_at (find rate_of r (held_shape h))
          result =
              f.is (held_shape h) rate_of (record { kind = omega arith; root = d; slots = o.slots; tied = o.tied }) o.right.balanced
              (record { read = λ m. (o.kept.held m).rate })
