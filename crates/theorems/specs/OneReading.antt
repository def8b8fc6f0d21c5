-- A table that passes the check stands for exactly one book: the words tell the tree of offers with all that is stored in it, and the tree of their order,
-- and so one capacity and one list of offers; and the entries of its memory.
use Rattle.std.specs.Prelude.{◌≡◌, refl, true, false, ℕ, ℤ, pos}
use Rattle.std.proofs.Common.{sym, ◌∙◌, ap, arith}
use mathlib.Core.List.Memᴰ
use mathlib.Core.List.{List, [], ◌∷◌, ◌++◌, Memᴰ}
use Rattle.std.proofs.Math.Option.{Option, none, some}
use Rattle.lists.specs.Places.{sublist_mem}
use Rattle.plain.specs.Book.{State}
use Rattle.trees.specs.Tree.{leaves, last}
use Rattle.trees.specs.Leaves.{last_leaf}
use Rattle.trees.specs.Operations.{Part, part_leaves}
use Rattle.envelopes.specs.Envelope.{Env}
use Rattle.dynamic.specs.OfferTree.{OfferTree, single, fork, shape, Held}
use Rattle.dynamic.specs.Valid.{Valid, valid_fork}
use Rattle.dynamic.specs.Lower.{valid_env}
use Rattle.table.specs.Fields.{bridge_left_field, bridge_right_field, offer_tree, order_tree, piece_tree}
use Rattle.table.specs.Words.{Words}
use Rattle.table.specs.Layout.{cap_most, cell, link_at}
use Rattle.table.specs.Items.{Item}
use Rattle.table.specs.Rep.{child_field, ref_of, Tied, tied_node}
use Rattle.table.specs.PartTrees.{part_ref, TiedPart}
use Rattle.pieces.specs.Pieces.{items, item_laws_lem, PartIn}
use Rattle.form.specs.Stored.{node_slot, rest_field, Stored, stored_fork, HeldIn}
use Rattle.form.specs.Form.{offers_ref, envelope_ref, OffersIn, OffersStand, InOrder, plain_offers, Book, Form}
use Rattle.form.specs.Rings.{ring_once}
use Rattle.theorems.specs.Unique.{AllLie, all_lie, same_item, same_part, some_root}

pub number_of_lem : {m n : ℕ} {z z' : ℤ} → z ≡ pos m → z' ≡ pos n → z ≡ z' → m ≡ n
number_of_lem {m} {n} p q e = same (sym p ∙ e ∙ q)
  where
    same : pos m ≡ pos n → m ≡ n
    same d = cc

module _ (w : Words) where
  pub pieces_tied : (q : Part Item) → PartIn w q → TiedPart w piece_tree q
  pieces_tied none p = tt
  pieces_tied (some t) p = p.0

  -- some of the lines below
  pub some_lie : {ls es : List Item} → AllLie w ls → Env items ls es → AllLie w es
  some_lie h E a m = h a (sublist_mem E.sub m)

  -- a part that is told by a word
  pub same_rest :
      (q q' : Part Item) {z z' : ℤ} → AllLie w (part_leaves q) → AllLie w (part_leaves q') → PartIn w q → PartIn w q' → z ≡ pos (part_ref q) →
      z' ≡ pos (part_ref q') → z ≡ z' → q ≡ q'
  same_rest q q' h h' p p' e e' d = same_part 0 q q' h h' (pieces_tied q p) (pieces_tied q' p') (number_of_lem e e' d)

  pub same_offers :
      (t t' : OfferTree Item) {es es' : List Item} → AllLie w (leaves (shape t)) → AllLie w (leaves (shape t')) → Tied w offer_tree (shape t) →
      Tied w offer_tree (shape t') →
      Stored w t → Stored w t' → Valid items t es → Valid items t' es' → ref_of (shape t) ≡ ref_of (shape t') → t ≡ t'
  same_offers (single a) (single b) h h' p p' s s' v v' e = ap single (same_item (h a (Memᴰ.head refl)).held (h' b (Memᴰ.head refl)).held e)
  same_offers (single a) (fork u v l ql qr r) h h' p p' s s' y y' e =
      absurd
      (omega (arith, (h a (Memᴰ.head refl)).high, cap_most w, (h' (last (shape l)) (Memᴰ.append_left (leaves (shape r)) (last_leaf (shape l)))).low, e))
  same_offers (fork u v l ql qr r) (single a) h h' p p' s s' y y' e =
      absurd
      (omega (arith, (h' a (Memᴰ.head refl)).high, cap_most w, (h (last (shape l)) (Memᴰ.append_left (leaves (shape r)) (last_leaf (shape l)))).low, e))
  same_offers
      (fork u v l ql qr r) (fork u' v' l' ql' qr' r') h h' (tied_node pl pr el er eh) (tied_node pl' pr' el' er' eh')
      (stored_fork sl sr su sv kl kr) (stored_fork sl' sr' su' sv' kl' kr') (valid_fork up from d yl yr al ar E)
      (valid_fork up' from' d' yl' yr' al' ar' E') e =
      let seam : (last (shape l)).slot ≡ (last (shape l')).slot = omega (arith, e) in
      let hl : AllLie w (leaves (shape l)) = λ a m. h a (Memᴰ.append_left (leaves (shape r)) m) in
      let hr : AllLie w (leaves (shape r)) = λ a m. h a (Memᴰ.append_right (leaves (shape l)) m) in
      let hl' : AllLie w (leaves (shape l')) = λ a m. h' a (Memᴰ.append_left (leaves (shape r')) m) in
      let hr' : AllLie w (leaves (shape r')) = λ a m. h' a (Memᴰ.append_right (leaves (shape l')) m) in
      let lefts : l ≡ l' = same_offers l l' hl hl' pl pl' sl sl' yl yl' (sym el ∙ ap (link_at w (child_field offer_tree false)) seam ∙ el') in
      let rights : r ≡ r' = same_offers r r' hr hr' pr pr' sr sr' yr yr' (sym er ∙ ap (link_at w (child_field offer_tree true)) seam ∙ er') in
      let gl = some_lie hl (valid_env items item_laws_lem yl) in
      let gl' = some_lie hl' (valid_env items item_laws_lem yl') in
      let gr = some_lie hr (valid_env items item_laws_lem yr) in
      let gr' = some_lie hr' (valid_env items item_laws_lem yr') in
      let us : u ≡ u' =
      same_item (gl u (last_kept up u (part_leaves ql))).held (gl' u' (last_kept up' u' (part_leaves ql'))).held
      (sym su ∙ ap (link_at w bridge_left_field) seam ∙ su') in
      let vs : v ≡ v' =
      same_item (gr v (Memᴰ.append_right (part_leaves qr) (Memᴰ.head refl))).held
      (gr' v' (Memᴰ.append_right (part_leaves qr') (Memᴰ.head refl))).held (sym sv ∙ ap (link_at w bridge_right_field) seam ∙ sv') in
      let qls : ql ≡ ql' =
      same_rest ql ql' (λ a m. gl a (Memᴰ.append_right (up ++ u ∷ []) m)) (λ a m. gl' a (Memᴰ.append_right (up' ++ u' ∷ []) m)) kl.pieces
      kl'.pieces kl.root kl'.root (ap (λ t. cell w (rest_field t) (node_slot t)) lefts) in
      let qrs : qr ≡ qr' =
      same_rest qr qr' (λ a m. gr a (Memᴰ.append_left (v ∷ from) m)) (λ a m. gr' a (Memᴰ.append_left (v' ∷ from') m)) kr.pieces kr'.pieces
      kr.root kr'.root (ap (λ t. cell w (rest_field t) (node_slot t)) rights) in
      λ i. fork (us i) (vs i) (lefts i) (qls i) (qrs i) (rights i)
    where
      last_kept : (up : List Item) (u : Item) (q : List Item) → Memᴰ u ((up ++ u ∷ []) ++ q)
      last_kept up u q = Memᴰ.append_left q (Memᴰ.append_right up (Memᴰ.head refl))

  -- a tree of offers with its whole envelope in hand
  pub same_held : {x e x' e' : ℕ} {h h' : Held Item} → HeldIn w x e h → HeldIn w x' e' h' → x ≡ x' → e ≡ e' → h ≡ h'
  same_held {h} {h'} p q d f = λ i. record { tree = trees i; whole = wholes i }
    where
      lie : AllLie w (leaves (shape h.tree))
      lie = all_lie p.slots p.kept

      lie' : AllLie w (leaves (shape h'.tree))
      lie' = all_lie q.slots q.kept

      trees : h.tree ≡ h'.tree
      trees =
          same_offers h.tree h'.tree lie lie' p.tied q.tied p.stored q.stored p.right.valid q.right.valid
          (sym p.root ∙ d ∙ q.root)

      wholes : h.whole ≡ h'.whole
      wholes =
          same_part 0 h.whole h'.whole (some_lie lie (valid_env items item_laws_lem p.right.valid))
          (some_lie lie' (valid_env items item_laws_lem q.right.valid))
          (pieces_tied h.whole p.pieces) (pieces_tied h'.whole q.pieces) (sym p.envelope ∙ f ∙ q.envelope)

  -- and of a book, told by the two roots
  pub same_book :
      (held held' : Option (Held Item)) → OffersIn w held → OffersIn w held' → offers_ref held ≡ offers_ref held' →
      envelope_ref held ≡ envelope_ref held' → held ≡ held'
  same_book none none p q d e = refl
  same_book none (some h) p q d e = absurd (some_root (shape h.tree) (all_lie q.slots q.kept) (sym d))
  same_book (some h) none p q d e = absurd (some_root (shape h.tree) (all_lie p.slots p.kept) d)
  same_book (some h) (some h') p q d e = ap some (same_held p q d e)

-- ---- one plain book with its memory, one tree of offers, one order

pub one_reading : {w : Words} {s s' : State} {held held' : Option (Held Item)} (f : Form w s held) (f' : Form w s' held') →
    (s ≡ s') × (held ≡ held') × (f.book.order ≡ f'.book.order)
one_reading {w} {s} {s'} {held} {held'} f f' = (
  λ i. record { capacity = capacities i; offers = lists i; memory = ring_once f.memory.ring f'.memory.ring i },
  trees,
  orders,
)
  where
    b : Book w s held
    b = f.book

    b' : Book w s' held'
    b' = f'.book

    o : OffersStand w held
    o = b.offers

    o' : OffersStand w held'
    o' = b'.offers

    trees : held ≡ held'
    trees =
        same_book w held held' o.offers_in o'.offers_in (number_of_lem o.offers_root o'.offers_root refl)
        (number_of_lem o.envelope_root o'.envelope_root refl)

    capacities : s.capacity ≡ s'.capacity
    capacities = sym b.capacity ∙ b'.capacity

    i : InOrder w b.order
    i = b.in_order

    i' : InOrder w b'.order
    i' = b'.in_order

    orders : b.order ≡ b'.order
    orders =
        same_part order_tree b.order b'.order (all_lie i.slots i.holds) (all_lie i'.slots i'.holds) i.order_in.tied i'.order_in.tied
        (number_of_lem i.order_root i'.order_root refl)

    lists : s.offers ≡ s'.offers
    lists = sym b.stands_for ∙ ap plain_offers orders ∙ b'.stands_for
