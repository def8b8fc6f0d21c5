-- The cheapest of each child of an inner node, in words: the node's own cheapest, or the cheaper of the bridge's line and what a descent finds.
use mathlib.Core.Bool.{beq}
use Rattle.std.specs.Prelude.{◌≡◌, refl, ◌≢◌, Bool, true, false, not, List, ℕ, ◌-◌, T, ℤ}
use Rattle.std.proofs.Common.{sym, ◌∙◌, ap, ap₂, arith}
use Rattle.std.proofs.Math.Option.{none, some}
use mathlib.Core.List.Memᴰ
use Rattle.std.specs.Int.Signed.{le_z, lt_z}
use Rattle.offers.specs.Offers.{load_in_range, price_at}
use Rattle.lines.specs.Lines.{whole, whole_price}
use Rattle.trees.specs.Tree.{Tree, last}
use Rattle.trees.specs.Operations.{Part, part_leaves}
use Rattle.dynamic.specs.OfferTree.{OfferTree, fork, shape}
use Rattle.below.specs.Children.{cheaper, left_of, right_of}
use Rattle.table.specs.Fields.{bridge_left_field, bridge_right_field, most_slots, offer_tree, rate_field}
use Rattle.table.specs.Words.{Words}
use Rattle.table.specs.Layout.{cell, link_at}
use Rattle.table.specs.Items.{Item}
use Rattle.table.specs.Nodes.{ref_low}
use Rattle.table.specs.PartTrees.{low}
use Rattle.table.specs.Rep.{child_at}
use Rattle.table.specs.Threads.{Held}
use Rattle.pieces.specs.Pieces.{items, rate_of, base_of, Standing}
use Rattle.form.specs.RestWords.{rest_at}
use Rattle.query.specs.Lookup.{walk_leaf, leaf_mem}
use Rattle.query.specs.QueriedPieces.{Pieces, price_kept}
use Rattle.query.specs.Readings.{price_in}
use Rattle.query.specs.Descent.{Descended}
use Rattle.gathering.specs.Limits.{seek_at}
use Rattle.gathering.specs.Nodes.{Subtree, subtree_held, Forked, forked}

-- slot s keeps item a, whose price at the load is read there
pub record Kept (w : Words) (s : ℕ) (q : ℤ) (a : Item) : Type 0 where
  pub slot : s ≡ a.slot
  pub held : Held w a
  pub load : T (load_in_range q)

pub price_told : {w : Words} {s : ℕ} {q : ℤ} {a : Item} → Kept w s q a → price_in w s q ≡ price_at a.offer q
price_told {w} {q} k = ap (λ n. price_in w n q) k.slot ∙ price_kept q k.held k.load

-- ---- the cheaper of an item and the cheapest of a piece tree, which may be empty

-- a tree that stands, as a query reads it
standing_pieces : {w : Words} {root : ℕ} {t : Tree Item} → Standing w root (some t) → Pieces w root t
standing_pieces st =
    record { rep = record { kind = omega arith; root = st.root; slots = st.slots; tied = st.pieces.0 }; thread = st.pieces.1; holds = st.holds }

pub record Cheaper (w : Words) (root s : ℕ) (q : ℤ) (r : ℕ) : Type 0 where
  pub is : (p : Part Item) (a : Item) → Standing w root p → Kept w s q a → r ≡ (cheaper items (whole q) (seek_at q) a p).slot

pub cheaper_none : {w : Words} {root s : ℕ} {q : ℤ} → root ≡ 0 → Cheaper w root s q s
cheaper_none {w} {root} {s} {q} z = record { is = go }
  where
    go : (p : Part Item) (a : Item) → Standing w root p → Kept w s q a → s ≡ (cheaper items (whole q) (seek_at q) a p).slot
    go none a st k = k.slot
    go (some t) a st k = absurd (omega (arith, z, st.root, ref_low t st.slots))

-- what a descent ends at
pub found : {w : Words} {root slot second probes : ℕ} {q : ℤ} {t : Tree Item} → Descended w root q slot second probes → Standing w root (some t) →
    T (load_in_range q) → Kept w slot q (seek_at q t)
found {w} {q} {t} d st h =
    record {
      slot = (d.finds t (standing_pieces st) (low w st.slots st.balanced) h).item;
      held = st.holds.held (leaf_mem (walk_leaf q none t));
      load = h;
    }

module _
    {w : Words} {root s other second probes : ℕ} {q : ℤ} (d : Descended w root q other second probes) (some_root : root ≢ 0) {b : Bool}
    (test : b ≡ le_z (price_in w s q) (price_in w other q)) where
  -- the code's test is the figure's
  decided : (t : Tree Item) (a : Item) → Standing w root (some t) → Kept w s q a → items.at_most a (seek_at q t) (whole q) ≡ b
  decided t a st k = whole_price Item rate_of base_of a (seek_at q t) q ∙ sym (test ∙ ap₂ le_z (price_told k) (price_told (found d st k.load)))

  pub cheaper_own : b ≡ true → Cheaper w root s q s
  cheaper_own y = record { is = go }
    where
      go : (p : Part Item) (a : Item) → Standing w root p → Kept w s q a → s ≡ (cheaper items (whole q) (seek_at q) a p).slot
      go none a st k = k.slot
      go (some t) a st k = rw (decided t a st k, y) k.slot

  pub cheaper_found : b ≡ false → Cheaper w root s q other
  cheaper_found y = record { is = go }
    where
      go : (p : Part Item) (a : Item) → Standing w root p → Kept w s q a → other ≡ (cheaper items (whole q) (seek_at q) a p).slot
      go none a st k = absurd (some_root st.root)
      go (some t) a st k = rw (decided t a st k, y) (found d st k.load).slot

-- ---- the children's

pub record OnLeft (w : Words) (x e : ℕ) (q : ℤ) (s : ℕ) : Type 0 where
  pub is : (u v : Item) (l r : OfferTree Item) (ql qr : Part Item) (es : List Item) (a : Item) → Subtree w x (fork u v l ql qr r) es → Kept w e q a →
      s ≡ (left_of items (whole q) (seek_at q) u l ql a).slot

pub record OnRight (w : Words) (x e : ℕ) (q : ℤ) (s : ℕ) : Type 0 where
  pub is : (u v : Item) (l r : OfferTree Item) (ql qr : Part Item) (es : List Item) (a : Item) → Subtree w x (fork u v l ql qr r) es → Kept w e q a →
      s ≡ (right_of items (whole q) (seek_at q) v l qr a).slot

-- by the side; left is false
pub record OnSide (side : Bool) (w : Words) (x e : ℕ) (q : ℤ) (s : ℕ) : Type 0 where
  pub left : side ≡ false → OnLeft w x e q s
  pub right : side ≡ true → OnRight w x e q s

same : (a b : Bool) → beq a b ≡ true → a ≡ b
same true true e = refl
same false false e = refl
same true false e = sym e
same false true e = e

other : (a b : Bool) → beq a b ≡ false → a ≡ not b
other true true e = e
other false false e = sym e
other true false e = refl
other false true e = refl

abbrev pub bridge_on : Bool → ℕ
bridge_on false = bridge_left_field
bridge_on true = bridge_right_field

module _
    {w : Words} {x e m : ℕ} {q : ℤ} {late : Bool} (here : m ≡ x - most_slots) (test : late ≡ lt_z (cell w rate_field e) (cell w rate_field m)) where
  -- the code's test is the figure's
  side_is :
      {u v : Item} {l r : OfferTree Item} {ql qr : Part Item} {es : List Item} {a : Item} → Forked w x u v l r ql qr es → Kept w e q a →
      items.before (last (shape l)) a ≡ late
  side_is f k = sym (test ∙ ap₂ lt_z (ap (cell w rate_field) k.slot ∙ k.held.rate) (ap (cell w rate_field) here ∙ f.rate_at))

  pub left_own : late ≡ false → OnLeft w x e q e
  left_own y = record { is = λ u v l r ql qr es a n k. rw (side_is (forked u v l r ql qr n) k, y) k.slot }

  pub right_own : late ≡ true → OnRight w x e q e
  right_own y = record { is = λ u v l r ql qr es a n k. rw (side_is (forked u v l r ql qr n) k, y) k.slot }

  pub own_on : {side : Bool} → beq late side ≡ true → OnSide side w x e q e
  own_on {side} y = record { left = λ f. left_own (same late side y ∙ f); right = λ f. right_own (same late side y ∙ f) }

  module _ {c root b s : ℕ} (stays : root ≡ rest_at w c) (least : Cheaper w root b q s) where
    pub left_rest : late ≡ true → c ≡ child_at w offer_tree false x → b ≡ link_at w bridge_left_field m → OnLeft w x e q s
    left_rest y ec eb =
        record {
          is = λ u v l r ql qr es a n k.
              let f = forked u v l r ql qr n in
              let in_left = Memᴰ.append_left (part_leaves ql) (Memᴰ.append_right f.up_to (Memᴰ.head refl)) in
              let own : Kept w b q u =
              record { slot = eb ∙ ap (link_at w bridge_left_field) here ∙ f.u_at; held = subtree_held f.left in_left; load = k.load } in
              rw (side_is f k, y)
              (least.is ql u (rw (stays, ec) f.rest_left) own);
        }

    pub right_rest : late ≡ false → c ≡ child_at w offer_tree true x → b ≡ link_at w bridge_right_field m → OnRight w x e q s
    right_rest y ec eb =
        record {
          is = λ u v l r ql qr es a n k.
              let f = forked u v l r ql qr n in
              let in_right = Memᴰ.append_right (part_leaves qr) (Memᴰ.head refl) in
              let own : Kept w b q v =
              record { slot = eb ∙ ap (link_at w bridge_right_field) here ∙ f.v_at; held = subtree_held f.right in_right; load = k.load } in
              rw (side_is f k, y)
              (least.is qr v (rw (stays, ec) f.rest_right) own);
        }

    pub rest_on : {side : Bool} → beq late side ≡ false → c ≡ child_at w offer_tree side x → b ≡ link_at w (bridge_on side) m → OnSide side w x e q s
    rest_on {side} y ec eb =
        record {
          left = λ f. left_rest (other late side y ∙ ap not f) (ec ∙ ap (λ k. child_at w offer_tree k x) f) (eb ∙ ap (λ k. link_at w (bridge_on k) m) f);
          right = λ f. right_rest (other late side y ∙ ap not f) (ec ∙ ap (λ k. child_at w offer_tree k x) f) (eb ∙ ap (λ k. link_at w (bridge_on k) m) f);
        }
