-- What stays where an update has not been: words that say the same of the fields and slots that a subtree is kept in keep the subtree.
-- Everything that is kept of a subtree with its envelope lies in the slots of its leaves, and its piece trees share none of them.
use Rattle.std.specs.Prelude.{◌≡◌, refl, ◌≢◌, Bool, true, false, ℕ, ◌≤◌, ◌<◌, ℤ}
use Rattle.std.proofs.Common.{sym, ◌∙◌, ap, subst, arith}
use mathlib.Core.HLevel.{¬_prop}
use Rattle.std.proofs.Math.Option.{none, some}
use mathlib.Core.List.Permᴰ
use mathlib.Core.List.{List, ◌++◌, Permᴰ}
use Rattle.trees.specs.Tree.{Tree, leaves, last}
use Rattle.trees.specs.Leaves.{last_leaf}
use Rattle.trees.specs.Operations.{Part, part_leaves}
use Rattle.dynamic.specs.OfferTree.{OfferTree, single, fork, shape, Held, held_shape}
use Rattle.dynamic.specs.Rearranged.{stored, rearranged, rearranged_mem}
use Rattle.table.specs.Fields.{base_field, bridge_left_field, bridge_right_field, denominator_field, inner_rest_field, leaf_rest_field, most_nodes}
use Rattle.table.specs.Fields.{next_piece_field, number_field, numerator_field, offer_tree, piece_tree, rate_field}
use Rattle.table.specs.Words.{Words, up_to}
use Rattle.table.specs.Layout.{cap, cell, cset, link_at}
use Rattle.table.proofs.LayoutLaws.{cset_other}
use Rattle.table.specs.Items.{Item, In, at, in_left, in_right, Slots, slots_left, slots_across}
use Rattle.table.specs.Rep.{child_field, height_field, Field, a_child, a_height, Tied, tied_leaf, tied_node, Within, within_cap, Only}
use Rattle.table.specs.Threads.{Holds, Threaded, holds_left, holds_still, threaded_still, leads_in}
use Rattle.pieces.specs.Pieces.{items, PartIn, PieceField, of_node, of_numerator, of_denominator, of_next, PiecesOnly, Standing}
use Rattle.form.specs.Stored.{RestIn, Stored, stored_single, stored_fork, HeldIn, EnvelopeField, of_pieces, of_offers, of_bridge_u, of_bridge_v}
use Rattle.form.specs.Stored.{of_inner_rest, of_leaf_rest, Touched}

-- ---- fields

-- the fields of an item's offer
abbrev pub OfferField : ℕ → Type 0
OfferField f = f ≤ base_field

-- the fields of a node's bridge, and of what stays with a node
pub data RestField (f : ℕ) : Type 0 where
  bridge_u : f ≡ bridge_left_field → RestField f
  bridge_v : f ≡ bridge_right_field → RestField f
  inner_rest : f ≡ inner_rest_field → RestField f
  leaf_rest : f ≡ leaf_rest_field → RestField f

-- where fields of pieces are not
pub record OfPieces (f : ℕ) : Type 0 where
  pub no_offer : base_field < f
  pub no_left : f ≢ child_field offer_tree false
  pub no_right : f ≢ child_field offer_tree true
  pub no_height : f ≢ height_field offer_tree
  pub no_bridge_u : f ≢ bridge_left_field
  pub no_bridge_v : f ≢ bridge_right_field
  pub no_inner_rest : f ≢ inner_rest_field
  pub no_leaf_rest : f ≢ leaf_rest_field

pub of_pieces_field : {f : ℕ} → PieceField f → OfPieces f
of_pieces_field {f} (of_node (a_child side e)) = child side e
  where
    child : (side : Bool) → f ≡ child_field piece_tree side → OfPieces f
    child false d = omega arith
    child true d = omega arith
of_pieces_field (of_node (a_height e)) = omega arith
of_pieces_field (of_numerator e) = omega arith
of_pieces_field (of_denominator e) = omega arith
of_pieces_field (of_next e) = omega arith

pub offers_apart : {f : ℕ} → PieceField f → Field offer_tree f → ⊥
offers_apart {f} p (a_child side e) = child side e (of_pieces_field p)
  where
    child : (side : Bool) → f ≡ child_field offer_tree side → OfPieces f → ⊥
    child false d q = q.no_left d
    child true d q = q.no_right d
offers_apart p (a_height e) = (of_pieces_field p).no_height e

pub rests_apart : {f : ℕ} → PieceField f → RestField f → ⊥
rests_apart p (bridge_u e) = (of_pieces_field p).no_bridge_u e
rests_apart p (bridge_v e) = (of_pieces_field p).no_bridge_v e
rests_apart p (inner_rest e) = (of_pieces_field p).no_inner_rest e
rests_apart p (leaf_rest e) = (of_pieces_field p).no_leaf_rest e

pub envelope_high : {f : ℕ} → EnvelopeField f → base_field < f
envelope_high (of_pieces p) = (of_pieces_field p).no_offer
envelope_high {f} (of_offers (a_child side e)) = child side e
  where
    child : (side : Bool) → f ≡ child_field offer_tree side → base_field < f
    child false d = omega arith
    child true d = omega arith
envelope_high (of_offers (a_height e)) = omega arith
envelope_high (of_bridge_u e) = omega arith
envelope_high (of_bridge_v e) = omega arith
envelope_high (of_inner_rest e) = omega arith
envelope_high (of_leaf_rest e) = omega arith

pub of_rest : {f : ℕ} → RestField f → EnvelopeField f
of_rest (bridge_u e) = of_bridge_u e
of_rest (bridge_v e) = of_bridge_v e
of_rest (inner_rest e) = of_inner_rest e
of_rest (leaf_rest e) = of_leaf_rest e

-- ---- words that say the same

-- of the fields that F tells, in the slots of xs
pub record Same (F : ℕ → Type 0) (xs : List Item) (w w' : Words) : Type 0 where
  pub cells : (f s : ℕ) → F f → In s xs → cell w' f s ≡ cell w f s

-- all slots of the one are slots of the other; no slot is in both
abbrev pub Inside : List Item → List Item → Type 0
Inside xs ys = (s : ℕ) → In s xs → In s ys

abbrev pub Disjoint : List Item → List Item → Type 0
Disjoint xs ys = (s : ℕ) → In s xs → In s ys → ⊥

module _ {F : ℕ → Type 0} {w w' : Words} where
  pub same_inside : {xs ys : List Item} → Inside xs ys → Same F ys w w' → Same F xs w w'
  same_inside i q = record { cells = λ f s p j. q.cells f s p (i s j) }

  pub same_link : {xs : List Item} {s : ℕ} (f : ℕ) → Same F xs w w' → F f → In s xs → link_at w' f s ≡ link_at w f s
  same_link {s} f q p i = ap (up_to most_nodes) (q.cells f s p i)

  pub same_left : {xs : List Item} (ys : List Item) → Same F (xs ++ ys) w w' → Same F xs w w'
  same_left ys q = same_inside (λ s i. in_left ys i) q

  pub same_right : (xs : List Item) {ys : List Item} → Same F (xs ++ ys) w w' → Same F ys w w'
  same_right xs q = same_inside (λ s i. in_right xs i) q

-- ---- what such words keep

module _ {w w' : Words} where
  pub tied_same : {k : ℕ} {t : Tree Item} → Tied w k t → Same (Field k) (leaves t) w w' → Tied w' k t
  tied_same tied_leaf q = tied_leaf
  tied_same (tied_node {l} {r} tl tr el er eh) q =
      tied_node (tied_same tl (same_left (leaves r) q)) (tied_same tr (same_right (leaves l) q))
      (same_link _ q (a_child false refl) here ∙ el)
      (same_link _ q (a_child true refl) here ∙ er)
      (same_link _ q (a_height refl) here ∙ eh)
    where
      here : In (last l).slot (leaves l ++ leaves r)
      here = in_left (leaves r) (at (last_leaf l) refl)

  pub threaded_same : {xs : List Item} → Threaded w xs → Same PieceField xs w w' → Threaded w' xs
  threaded_same h q =
      threaded_still h
      (λ s k. record {
        next = q.cells next_piece_field s (of_next refl) (leads_in k);
        numerator = q.cells numerator_field s (of_numerator refl) (leads_in k);
        denominator =
            q.cells denominator_field s (of_denominator refl) (leads_in k);
      })

  pub part_same : (p : Part Item) → PartIn w p → Same PieceField (part_leaves p) w w' → PartIn w' p
  part_same none h q = tt
  part_same (some t) h q = (tied_same h.0 (record { cells = λ f s i j. q.cells f s (of_node i) j }), threaded_same h.1 q)

  pub holds_same : {xs : List Item} → Holds w xs → Same OfferField xs w w' → Holds w' xs
  holds_same h q =
      holds_still h
      (λ s i. record {
        number = q.cells number_field s (omega arith) i;
        rate = q.cells rate_field s (omega arith) i;
        base = q.cells base_field s (omega arith) i;
      })

  pub rest_same : (t : OfferTree Item) {q : Part Item} → RestIn w t q → Same RestField (leaves (shape t)) w w' → Same PieceField (part_leaves q) w w' →
      RestIn w' t q
  rest_same (single a) {q} h rests pieces = record {
    root = rests.cells leaf_rest_field _ (leaf_rest refl) (at (last_leaf (shape (single a))) refl) ∙ h.root;
    pieces =
        part_same q h.pieces pieces;
  }
  rest_same (fork u v l ql qr r) {q} h rests pieces =
      record {
        root = rests.cells inner_rest_field _ (inner_rest refl) (in_left (leaves (shape r)) (at (last_leaf (shape l)) refl)) ∙ h.root;
        pieces =
            part_same q h.pieces pieces;
      }

  pub stored_same : {t : OfferTree Item} → Stored w t → Same RestField (leaves (shape t)) w w' → Same PieceField (stored t) w w' → Stored w' t
  stored_same stored_single rests pieces = stored_single
  stored_same (stored_fork {l} {r} {ql} {qr} sl sr eu ev rl rr) rests pieces =
      stored_fork
      (stored_same sl (same_left (leaves (shape r)) rests) (same_right (part_leaves ql) front))
      (stored_same sr (same_right (leaves (shape l)) rests) (same_right (part_leaves qr) back))
      (same_link bridge_left_field rests (bridge_u refl) here ∙ eu)
      (same_link bridge_right_field rests (bridge_v refl) here ∙ ev)
      (rest_same l rl (same_left (leaves (shape r)) rests) (same_left (stored l) front))
      (rest_same r rr (same_right (leaves (shape l)) rests) (same_left (stored r) back))
    where
      here : In (last (shape l)).slot (leaves (shape l) ++ leaves (shape r))
      here = in_left (leaves (shape r)) (at (last_leaf (shape l)) refl)

      front : Same PieceField (part_leaves ql ++ stored l) w w'
      front = same_left (part_leaves qr ++ stored r) pieces

      back : Same PieceField (part_leaves qr ++ stored r) w w'
      back = same_right (part_leaves ql ++ stored l) pieces

-- ---- the slots of a subtree

pub slots_rearranged : {c : ℕ} {xs ys : List Item} → Permᴰ xs ys → Slots c ys → Slots c xs
slots_rearranged p s =
    record {
      low = λ m. s.low (rearranged_mem p m);
      high = λ m. s.high (rearranged_mem p m);
      apart = Permᴰ.pairwise (λ a b. ¬_prop) (λ a b n e. n (sym e)) (Permᴰ.symm p) s.apart;
    }

pub inside_rearranged : {xs ys : List Item} → Permᴰ xs ys → Inside xs ys
inside_rearranged p s (at m e) = at (rearranged_mem p m) e

module _ {w : Words} {x e : ℕ} {h : Held Item} (held : HeldIn w x e h) where
  -- its piece trees share no slot
  pub held_slots : Slots (cap w) (part_leaves h.whole ++ stored h.tree)
  held_slots = slots_rearranged (rearranged items held.right) held.slots

  pub whole_inside : Inside (part_leaves h.whole) (leaves (held_shape h))
  whole_inside s i = inside_rearranged (rearranged items held.right) s (in_left (stored h.tree) i)

  pub stored_inside : Inside (stored h.tree) (leaves (held_shape h))
  stored_inside s i = inside_rearranged (rearranged items held.right) s (in_right (part_leaves h.whole) i)

  -- the whole envelope in hand, and a stored part, with the data of their items
  pub held_holds : Holds w (part_leaves h.whole ++ stored h.tree)
  held_holds = record { held = λ m. held.kept.held (rearranged_mem (rearranged items held.right) m) }

  pub whole_standing : Standing w e h.whole
  whole_standing =
      record {
        root = held.envelope;
        slots = slots_left (stored h.tree) held_slots;
        holds = holds_left (stored h.tree) held_holds;
        balanced = held.right.balanced_whole;
        pieces = held.pieces;
      }

-- ---- what an update has left alone

pub disjoint_inside : {xs xs' ys : List Item} → Inside xs' xs → Disjoint xs ys → Disjoint xs' ys
disjoint_inside i d s j k = d s (i s j) k

pub disjoint_across : {c : ℕ} (xs : List Item) {ys : List Item} → Slots c (xs ++ ys) → Disjoint xs ys
disjoint_across xs h s i j = slots_across xs h i j

module _ {ys : List Item} {w w' : Words} (g : Touched ys w w') where
  -- offers, anywhere
  pub touched_offers : (xs : List Item) → Same OfferField xs w w'
  touched_offers xs = record { cells = λ f s p i. g.cells f s (λ q. omega (arith, envelope_high q.0)) }

  -- any field, elsewhere
  pub touched_else : (F : ℕ → Type 0) {xs : List Item} → Disjoint xs ys → Same F xs w w'
  touched_else F d = record { cells = λ f s p i. g.cells f s (λ q. d s i q.1) }

module _ {ys : List Item} {w w' : Words} (g : PiecesOnly ys w w') where
  pub pieces_offers : (xs : List Item) → Same OfferField xs w w'
  pieces_offers xs = record { cells = λ f s p i. g.cells f s (λ q. omega (arith, (of_pieces_field q.0).no_offer)) }

  -- the tree of offers, bridges and rests, anywhere
  pub pieces_tree : (xs : List Item) → Same (Field offer_tree) xs w w'
  pieces_tree xs = record { cells = λ f s p i. g.cells f s (λ q. offers_apart q.0 p) }

  pub pieces_rests : (xs : List Item) → Same RestField xs w w'
  pieces_rests xs = record { cells = λ f s p i. g.cells f s (λ q. rests_apart q.0 p) }

  pub pieces_else : (F : ℕ → Type 0) {xs : List Item} → Disjoint xs ys → Same F xs w w'
  pieces_else F d = record { cells = λ f s p i. g.cells f s (λ q. d s i q.1) }

  pub pieces_touched : Touched ys w w'
  pieces_touched = record { cells = λ f s d. g.cells f s (λ q. d (of_pieces q.0, q.1)) }

-- ---- the same of whole subtrees

module _ {w w' : Words} (within : Within w w') where
  pub slots_within : {xs : List Item} → Slots (cap w) xs → Slots (cap w') xs
  slots_within s = rw (within_cap within) s

  pub standing_same : {x : ℕ} {p : Part Item} → Standing w x p → Same OfferField (part_leaves p) w w' → Same PieceField (part_leaves p) w w' → Standing w' x p
  standing_same {p} st offers pieces =
      record {
        root = st.root;
        slots = slots_within st.slots;
        holds = holds_same st.holds offers;
        balanced = st.balanced;
        pieces =
            part_same p st.pieces pieces;
      }

  pub standing_still : {x : ℕ} {p : Part Item} {ys : List Item} → Standing w x p → Touched ys w w' → Disjoint (part_leaves p) ys → Standing w' x p
  standing_still {p} st g d = standing_same st (touched_offers g (part_leaves p)) (touched_else g PieceField d)

-- ---- one change after another, and among more slots

pub touched_refl : (xs : List Item) (w : Words) → Touched xs w w
touched_refl xs w = record { cells = λ f s d. refl }

pub touched_trans : {xs : List Item} {w w' w'' : Words} → Touched xs w w' → Touched xs w' w'' → Touched xs w w''
touched_trans g h = record { cells = λ f s d. h.cells f s d ∙ g.cells f s d }

pub touched_more : {xs ys : List Item} {w w' : Words} → Inside xs ys → Touched xs w w' → Touched ys w w'
touched_more sub g = record { cells = λ f s d. g.cells f s (λ h. d (h.0, sub s h.1)) }

pub pieces_trans : {xs : List Item} {w w' w'' : Words} → PiecesOnly xs w w' → PiecesOnly xs w' w'' → PiecesOnly xs w w''
pieces_trans g h = record { cells = λ f s d. h.cells f s d ∙ g.cells f s d }

pub pieces_more : {xs ys : List Item} {w w' : Words} → Inside xs ys → PiecesOnly xs w w' → PiecesOnly ys w w'
pieces_more sub g = record { cells = λ f s d. g.cells f s (λ h. d (h.0, sub s h.1)) }

-- nodes of pieces, nodes of offers, and one field written
pub only_pieces : {xs : List Item} {w w' : Words} → Only piece_tree xs w w' → PiecesOnly xs w w'
only_pieces g = record { cells = λ f s d. g.cells f s (λ h. d (of_node h.0, h.1)) }

pub only_touched : {xs : List Item} {w w' : Words} → Only offer_tree xs w w' → Touched xs w w'
only_touched g = record { cells = λ f s d. g.cells f s (λ h. d (of_offers h.0, h.1)) }

pub touched_cset : {f s : ℕ} {xs : List Item} (w : Words) (z : ℤ) → EnvelopeField f → In s xs → Touched xs w (cset w f s z)
touched_cset {f} {s} {xs} w z i h =
    record { cells = λ f' s' d. cset_other w f s z (λ e. d (subst EnvelopeField (sym e.0) i, subst (λ n. In n xs) (sym e.1) h)) }
