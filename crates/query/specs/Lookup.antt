-- A query on a tree of pieces: from the root to a leaf, at each node to the side of the crossing on which the load lies. At a crossing itself two pieces
-- have the least price: the walk goes on to the one behind it, and the one before it, with the higher rate, is kept in mind.
use Rattle.std.specs.Prelude.{◌≡◌, refl, ℕ, suc, ◌≤◌, ℤ, ◌*ℤ◌}
use Rattle.std.proofs.Math.Option.{Option, none, some}
use mathlib.Core.List.Memᴰ
use mathlib.Core.List.{Memᴰ}
use Rattle.std.proofs.Common.{arith}
use Rattle.offers.specs.Offers.{Offer, crossing_numerator, crossing_denominator}
use Rattle.trees.specs.Tree.{Tree, leaf, node, height, leaves, first, last}
use Rattle.table.specs.Items.{Item, at, Slots, slots_left, slots_right, slots_across}
use Rattle.prices.specs.Positions.{Position, Below, On, Above, position_of}

-- the item at the end of the walk, the one kept in mind or else the same, and how many nodes were passed
pub record Reached : Type 0 where
  pub item : Item
  pub second : Item
  pub depth : ℕ

-- Where an offer's point at the load lies against the line of the next: q × D against N, the two prices less the offer's base and the next's rate × q.
-- Below it the load is left of their crossing, above it right.
abbrev pub against : ℤ → Offer → Offer → Position
against q own next = position_of (q *ℤ crossing_denominator own next) (crossing_numerator own next)

abbrev pub deeper : Reached → Reached
deeper r = record { item = r.item; second = r.second; depth = suc r.depth }

abbrev pub kept_or : Option Item → Item → Item
kept_or none a = a
kept_or (some b) a = b

abbrev pub turned : Position → (below on above : Reached) → Reached
turned Below a b c = a
turned On a b c = b
turned Above a b c = c

-- with what was kept in mind so far
unfoldable pub walk : ℤ → Option Item → Tree Item → Reached
walk q kept (leaf a) = record { item = a; second = kept_or kept a; depth = 0 }
walk q kept (node l r) = deeper (turned (against q (last l).offer (first r).offer) (walk q kept l) (walk q (some (last l)) r) (walk q kept r))

abbrev pub lookup : ℤ → Tree Item → Reached
lookup q t = walk q none t

pub walk_turned : {p : Position} (q : ℤ) (kept : Option Item) (l r : Tree Item) → against q (last l).offer (first r).offer ≡ p →
    walk q kept (node l r) ≡ deeper (turned p (walk q kept l) (walk q (some (last l)) r) (walk q kept r))
unfolding walk
walk_turned q kept l r e = rw e

-- ---- a leaf's depth

-- the leaf of a is d edges below the root
pub data LeafAt (a : Item) : ℕ → Tree Item → Type 0 where
  at_root : LeafAt a 0 (leaf a)
  on_left : {d : ℕ} {l r : Tree Item} → LeafAt a d l → LeafAt a (suc d) (node l r)
  on_right : {d : ℕ} {l r : Tree Item} → LeafAt a d r → LeafAt a (suc d) (node l r)

-- the probes are the depth of the leaf of the offer that is named first
pub walk_leaf : (q : ℤ) (kept : Option Item) (t : Tree Item) → LeafAt (walk q kept t).item (walk q kept t).depth t
unfolding walk
walk_leaf q kept (leaf a) = at_root
walk_leaf q kept (node l r) =
    turned_to (λ z. LeafAt z.item (suc z.depth) (node l r)) (against q (last l).offer (first r).offer) (on_left (walk_leaf q kept l))
    (on_right (walk_leaf q _ r)) (on_right (walk_leaf q kept r))
  where
    turned_to : (P : Reached → Type 0) (p : Position) {a b c : Reached} → P a → P b → P c → P (turned p a b c)
    turned_to P Below i j k = i
    turned_to P On i j k = j
    turned_to P Above i j k = k

pub leaf_mem : {a : Item} {d : ℕ} {t : Tree Item} → LeafAt a d t → Memᴰ a (leaves t)
leaf_mem at_root = Memᴰ.head refl
leaf_mem (on_left {r = r} i) = Memᴰ.append_left (leaves r) (leaf_mem i)
leaf_mem (on_right {l = l} i) = Memᴰ.append_right (leaves l) (leaf_mem i)

pub leaf_depth : {a : Item} {d : ℕ} {t : Tree Item} → LeafAt a d t → d ≤ height t
leaf_depth at_root = omega arith
leaf_depth (on_left i) = omega (arith, leaf_depth i)
leaf_depth (on_right i) = omega (arith, leaf_depth i)

-- a slot has one leaf, so one depth
pub one_depth : {c : ℕ} {a b : Item} {d e : ℕ} {t : Tree Item} → Slots c (leaves t) → LeafAt a d t → LeafAt b e t → a.slot ≡ b.slot → d ≡ e
one_depth s at_root at_root p = refl
one_depth s (on_left {l} {r} i) (on_left j) p = omega (arith, one_depth (slots_left (leaves r) s) i j p)
one_depth s (on_left {l} {r} i) (on_right j) p = absurd (slots_across (leaves l) s (at (leaf_mem i) refl) (at (leaf_mem j) p))
one_depth s (on_right {l} {r} i) (on_left j) p = absurd (slots_across (leaves l) s (at (leaf_mem j) p) (at (leaf_mem i) refl))
one_depth s (on_right {l} {r} i) (on_right j) p = omega (arith, one_depth (slots_right (leaves l) s) i j p)
