-- Items whose slots hold their offers, and items threaded one to the next: a slot names the next item's slot and keeps the crossing with its offer.
-- Both belong to the list of items and not to the shape of a tree.
use Rattle.std.specs.Prelude.{◌≡◌, refl, ◌≢◌, Bool, true, false, ℕ, ◌≤◌, ◌<◌, T, ℤ, pos, length}
use Rattle.std.proofs.Common.{sym, ◌∙◌, ap, subst, ⊎_elim, arith}
use mathlib.Core.List.Memᴰ
use mathlib.Core.List.{List, [], ◌∷◌, ◌++◌, append_assoc, Memᴰ}
use mathlib.Core.List.{IsChain}
use mathlib.Mathlib.Data.List.Chain.IsChain
use mathlib.Mathlib.Data.List.Chain.{IsChain-append-cons-cons}
use Rattle.offers.specs.Offers.{offer_in_range, crossing_numerator, crossing_denominator}
use Rattle.trees.specs.Tree.{Tree, leaves, first, last}
use Rattle.trees.specs.Leaves.{start, rest, leaves_first, leaves_last}
use Rattle.table.specs.Fields.{base_field, denominator_field, most_nodes, next_piece_field, number_field, order_tree, numerator_field, piece_node_field, rate_field}
use Rattle.table.specs.Words.{Words, up_to, up_to_in}
use Rattle.table.specs.Layout.{cap, cell, cset, link_at, Valid, cset_cap, cset_same}
use Rattle.table.specs.Items.{Item, In, at, Slots, slots_across}
use Rattle.table.specs.Rep.{child_field, Field, a_child, a_height, Only}

-- ---- neighbours in the leaves of two trees side by side

seamed : {A : Type 0} (l r : Tree A) → leaves l ++ leaves r ≡ start l ++ (last l ∷ first r ∷ rest r)
seamed l r = simp (leaves_last l, leaves_first r, append_assoc)

module _ {A : Type 0} {R : A → A → Type 0} where
  pub chain_seam : (l r : Tree A) → IsChain R (leaves l ++ leaves r) → R (last l) (first r)
  chain_seam l r h = ((IsChain-append-cons-cons (last l) (start l)).0 (subst (IsChain R) (seamed l r) h)).1

  pub chain_join : (l r : Tree A) → IsChain R (leaves l) → R (last l) (first r) → IsChain R (leaves r) → IsChain R (leaves l ++ leaves r)
  chain_join l r h s k =
      subst (IsChain R) (sym (seamed l r))
      ((IsChain-append-cons-cons (last l) (start l)).1 (subst (IsChain R) (leaves_last l) h, s, subst (IsChain R) (leaves_first r) k))

-- ---- offers in their slots

-- the item's slot holds its offer, which is in range
pub record Held (w : Words) (a : Item) : Type 0 where
  pub number : cell w number_field a.slot ≡ a.offer.number
  pub rate : cell w rate_field a.slot ≡ a.offer.rate
  pub base : cell w base_field a.slot ≡ a.offer.base
  pub ranged : T (offer_in_range a.offer)

pub record Holds (w : Words) (xs : List Item) : Type 0 where
  pub held : {a : Item} → Memᴰ a xs → Held w a

pub holds_left : {w : Words} {xs : List Item} (ys : List Item) → Holds w (xs ++ ys) → Holds w xs
holds_left ys h = record { held = λ m. h.held (Memᴰ.append_left ys m) }

pub holds_right : {w : Words} (xs : List Item) {ys : List Item} → Holds w (xs ++ ys) → Holds w ys
holds_right xs h = record { held = λ m. h.held (Memᴰ.append_right xs m) }

pub holds_join : {w : Words} {xs ys : List Item} → Holds w xs → Holds w ys → Holds w (xs ++ ys)
holds_join {w} {xs} {ys} h k = record { held = λ {a} m. ⊎_elim {C = Held w a} h.held k.held (Memᴰ.append_cases xs m) }

-- ---- threads

-- a is followed by b
pub record Next (w : Words) (a b : Item) : Type 0 where
  pub next : link_at w next_piece_field a.slot ≡ b.slot
  pub numerator : cell w numerator_field a.slot ≡ crossing_numerator a.offer b.offer
  pub denominator : cell w denominator_field a.slot ≡ crossing_denominator a.offer b.offer

abbrev pub Threaded : Words → List Item → Type 0
Threaded w xs = IsChain (Next w) xs

pub threaded_left : {w : Words} {xs : List Item} (ys : List Item) → Threaded w (xs ++ ys) → Threaded w xs
threaded_left ys h = IsChain.left_of_append ys h

pub threaded_right : {w : Words} (xs : List Item) {ys : List Item} → Threaded w (xs ++ ys) → Threaded w ys
threaded_right xs h = IsChain.right_of_append xs h

-- slot s is that of an item of xs after which another comes
pub data Leads (s : ℕ) : List Item → Type 0 where
  leads_here : {a : Item} {xs : List Item} → s ≡ a.slot → 1 ≤ length xs → Leads s (a ∷ xs)
  leads_later : {a : Item} {xs : List Item} → Leads s xs → Leads s (a ∷ xs)

later : {s : ℕ} {a : Item} {xs : List Item} → In s xs → In s (a ∷ xs)
later (at m e) = at (Memᴰ.tail m) e

pub leads_in : {s : ℕ} {xs : List Item} → Leads s xs → In s xs
leads_in (leads_here e h) = at (Memᴰ.head refl) e
leads_in (leads_later k) = later (leads_in k)

leads_front : {s : ℕ} (xs : List Item) (z : Item) → Leads s (xs ++ z ∷ []) → In s xs
leads_front {s = s} [] z (leads_later k) = elim k [ ]
leads_front [] z (leads_here e h) = absurd (omega arith)
leads_front (a ∷ xs) z (leads_here e h) = at (Memᴰ.head refl) e
leads_front (a ∷ xs) z (leads_later k) = later (leads_front xs z k)

-- the last item of a tree leads to none
pub leads_last : {c s : ℕ} (t : Tree Item) → Slots c (leaves t) → Leads s (leaves t) → s ≢ (last t).slot
leads_last {c} {s} t h k e =
    slots_across (start t) (subst (Slots c) (leaves_last t) h) (leads_front (start t) (last t) (subst (Leads s) (leaves_last t) k))
    (at (Memᴰ.head refl) e)

-- ---- what a change leaves

-- slot s holds the same offer
pub record SameOffer (w w' : Words) (s : ℕ) : Type 0 where
  pub number : cell w' number_field s ≡ cell w number_field s
  pub rate : cell w' rate_field s ≡ cell w rate_field s
  pub base : cell w' base_field s ≡ cell w base_field s

-- slot s leads to the same slot, with the same crossing
pub record SameThread (w w' : Words) (s : ℕ) : Type 0 where
  pub next : cell w' next_piece_field s ≡ cell w next_piece_field s
  pub numerator : cell w' numerator_field s ≡ cell w numerator_field s
  pub denominator : cell w' denominator_field s ≡ cell w denominator_field s

held_still : {w w' : Words} {a : Item} → SameOffer w w' a.slot → Held w a → Held w' a
held_still q g = record { number = q.number ∙ g.number; rate = q.rate ∙ g.rate; base = q.base ∙ g.base; ranged = g.ranged }

pub holds_still : {w w' : Words} {xs : List Item} → Holds w xs → ((s : ℕ) → In s xs → SameOffer w w' s) → Holds w' xs
holds_still h same = record { held = λ {a} m. held_still (same a.slot (at m refl)) (h.held m) }

next_still : {w w' : Words} {a b : Item} → SameThread w w' a.slot → Next w a b → Next w' a b
next_still q g = record {
  next = ap (up_to most_nodes) q.next ∙ g.next;
  numerator = q.numerator ∙ g.numerator;
  denominator =
      q.denominator ∙ g.denominator;
}

pub threaded_still : {w w' : Words} {xs : List Item} → Threaded w xs → ((s : ℕ) → Leads s xs → SameThread w w' s) → Threaded w' xs
threaded_still IsChain.nil same = IsChain.nil
threaded_still (IsChain.singleton a) same = IsChain.singleton a
threaded_still (IsChain.cons-cons {a = a} n h) same =
    IsChain.cons-cons (next_still (same a.slot (leads_here refl (omega arith))) n) (threaded_still h (λ s k. same s (leads_later k)))

-- the nodes of a tree are in other fields
pub field_high : {k f : ℕ} → Field k f → piece_node_field ≤ f
field_high {k} {f} (a_child side e) = child side e
  where
    child : (side : Bool) → f ≡ child_field k side → piece_node_field ≤ f
    child false e = omega arith
    child true e = omega arith
field_high (a_height e) = omega arith

field_thread : {k f : ℕ} → Field k f → k ≤ order_tree → (f ≢ numerator_field) × (f ≢ denominator_field) × (f ≢ next_piece_field)
field_thread {k} {f} (a_child side e) h = child side e
  where
    child : (side : Bool) → f ≡ child_field k side → (f ≢ numerator_field) × (f ≢ denominator_field) × (f ≢ next_piece_field)
    child false e = omega arith
    child true e = omega arith
field_thread (a_height e) h = omega arith

module _ {k : ℕ} {xs : List Item} {w w' : Words} (g : Only k xs w w') where
  pub only_offer : (s : ℕ) → SameOffer w w' s
  only_offer s =
      record {
        number = g.cells number_field s (λ q. omega (arith, field_high q.0));
        rate = g.cells rate_field s (λ q. omega (arith, field_high q.0));
        base = g.cells base_field s (λ q. omega (arith, field_high q.0));
      }

  pub only_thread : k ≤ order_tree → (s : ℕ) → SameThread w w' s
  only_thread h s =
      record {
        next = g.cells next_piece_field s (λ q. (field_thread q.0 h).2 refl);
        numerator = g.cells numerator_field s (λ q. (field_thread q.0 h).0 refl);
        denominator = g.cells denominator_field s (λ q. (field_thread q.0 h).1 refl);
      }

-- ---- a new thread

-- the words with a threaded to b
abbrev pub threading : Words → Item → Item → Words
threading w a b =
    cset
    (cset (cset w numerator_field a.slot (crossing_numerator a.offer b.offer)) denominator_field a.slot (crossing_denominator a.offer b.offer))
    next_piece_field
    a.slot
    (pos b.slot)
