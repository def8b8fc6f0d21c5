-- Words that agree in some fields of some slots, and what of a book such words keep: the tree of offers, the indexes, the free slots.
use Rattle.std.specs.Prelude.{◌≡◌, refl, ◌≢◌, ◌⊎◌, true, false, ℕ, ◌≤◌, ◌<◌, ℤ}
use Rattle.std.proofs.Common.{◌∙◌, inl, inr, arith}
use mathlib.Core.List.{List, Memᴰ}
use Rattle.std.proofs.Math.Option.{Option, none, some}
use Rattle.trees.specs.Tree.{leaves}
use Rattle.trees.specs.Operations.{Part, part_leaves}
use Rattle.dynamic.specs.OfferTree.{Held, held_shape}
use Rattle.dynamic.specs.Valid.{book_lines}
use Rattle.table.specs.Fields.{next_free_field, number_field, number_tree, order_tree, rank_field}
use Rattle.table.specs.Words.{Words, word, wset, wset_same}
use Rattle.table.specs.Layout.{cap, cell, cset, cset_cap, header_cap, header_cell}
use Rattle.table.proofs.LayoutLaws.{cset_other}
use Rattle.table.specs.Items.{Item, In, at}
use Rattle.table.specs.Rep.{child_field, height_field, Field, a_child, a_height, Within, within_cap, Only}
use Rattle.table.specs.PartTrees.{TiedPart}
use Rattle.pieces.specs.Pieces.{of_node, of_numerator, of_denominator, of_next}
use Rattle.form.specs.Stored.{HeldIn, EnvelopeField, of_pieces, of_offers, of_bridge_u, of_bridge_v, of_inner_rest, of_leaf_rest, Touched}
use Rattle.form.specs.Frames.{OfferField, of_rest, Same, same_inside, tied_same, part_same, holds_same, stored_same, whole_inside, stored_inside}
use Rattle.form.specs.Form.{OffersIn, FreeChain, free_none, free_more}
use Rattle.index.specs.Index.{IndexAt}
use Rattle.form.specs.There.{cap_there}

-- ---- fields

-- a node of one of the two indexes
abbrev pub IndexField : ℕ → Type 0
IndexField f = Field number_tree f ⊎ Field order_tree f

-- a field of envelopes is neither an offer's, nor a rank's or the next free slot, nor a node of an index
record OfEnvelope (f : ℕ) : Type 0 where
  high : rank_field < f
  no_left : f ≢ child_field number_tree false
  no_right : f ≢ child_field number_tree true
  no_height : f ≢ height_field number_tree
  no_left_in_order : f ≢ child_field order_tree false
  no_right_in_order : f ≢ child_field order_tree true
  no_height_in_order : f ≢ height_field order_tree

of_envelope : {f : ℕ} → EnvelopeField f → OfEnvelope f
of_envelope (of_pieces (of_node (a_child false e))) = omega arith
of_envelope (of_pieces (of_node (a_child true e))) = omega arith
of_envelope (of_pieces (of_node (a_height e))) = omega arith
of_envelope (of_pieces (of_numerator e)) = omega arith
of_envelope (of_pieces (of_denominator e)) = omega arith
of_envelope (of_pieces (of_next e)) = omega arith
of_envelope (of_offers (a_child false e)) = omega arith
of_envelope (of_offers (a_child true e)) = omega arith
of_envelope (of_offers (a_height e)) = omega arith
of_envelope (of_bridge_u e) = omega arith
of_envelope (of_bridge_v e) = omega arith
of_envelope (of_inner_rest e) = omega arith
of_envelope (of_leaf_rest e) = omega arith

index_field : {f : ℕ} → IndexField f → (rank_field < f) × (EnvelopeField f → ⊥)
index_field (inl (a_child false e)) = (omega arith, λ p. (of_envelope p).no_left e)
index_field (inl (a_child true e)) = (omega arith, λ p. (of_envelope p).no_right e)
index_field (inl (a_height e)) = (omega arith, λ p. (of_envelope p).no_height e)
index_field (inr (a_child false e)) = (omega arith, λ p. (of_envelope p).no_left_in_order e)
index_field (inr (a_child true e)) = (omega arith, λ p. (of_envelope p).no_right_in_order e)
index_field (inr (a_height e)) = (omega arith, λ p. (of_envelope p).no_height_in_order e)

-- no node of the one index is a node of the other
pub indexes_apart : {f : ℕ} → Field number_tree f → Field order_tree f → ⊥
indexes_apart (a_child false e) (a_child false d) = omega arith
indexes_apart (a_child false e) (a_child true d) = omega arith
indexes_apart (a_child false e) (a_height d) = omega arith
indexes_apart (a_child true e) (a_child false d) = omega arith
indexes_apart (a_child true e) (a_child true d) = omega arith
indexes_apart (a_child true e) (a_height d) = omega arith
indexes_apart (a_height e) (a_child false d) = omega arith
indexes_apart (a_height e) (a_child true d) = omega arith
indexes_apart (a_height e) (a_height d) = omega arith

-- ---- words that agree where D says

pub record Agree (D : ℕ → ℕ → Type 0) (w w' : Words) : Type 0 where
  pub room : cap w' ≡ cap w
  pub cells : (f s : ℕ) → D f s → cell w' f s ≡ cell w f s

-- everywhere; in all slots but one
abbrev pub Everywhere : ℕ → ℕ → Type 0
Everywhere f s = Unit {0}

abbrev pub Elsewhere : ℕ → ℕ → ℕ → Type 0
Elsewhere t f s = s ≢ t

pub agree_trans : {D : ℕ → ℕ → Type 0} {w w' w'' : Words} → Agree D w w' → Agree D w' w'' → Agree D w w''
agree_trans g h = record { room = h.room ∙ g.room; cells = λ f s d. h.cells f s d ∙ g.cells f s d }

pub agree_less : {D D' : ℕ → ℕ → Type 0} {w w' : Words} → ((f s : ℕ) → D' f s → D f s) → Agree D w w' → Agree D' w w'
agree_less i g = record { room = g.room; cells = λ f s d. g.cells f s (i f s d) }

-- a word of the header that is not the first
pub agree_header : (w : Words) (i : ℕ) (z : ℤ) → 1 ≤ i → i < 64 → Agree Everywhere w (wset w i z)
agree_header w i z low high = record { room = header_cap w i z low high; cells = λ f s d. header_cell w i z low high f s }

pub agree_cset : (w : Words) (f s : ℕ) (z : ℤ) → Agree (Elsewhere s) w (cset w f s z)
agree_cset w f s z = record { room = cset_cap w f s z; cells = λ g t d. cset_other w f s z (λ e. d e.1) }

-- nodes of a tree; fields of envelopes
pub agree_only : {k : ℕ} {D : ℕ → ℕ → Type 0} {xs : List Item} {w w' : Words} → Within w w' → Only k xs w w' → ((f s : ℕ) → D f s → Field k f → ⊥) →
    Agree D w w'
agree_only g h no_Node = record { room = within_cap g; cells = λ f s d. h.cells f s (λ q. no_Node f s d q.0) }

pub agree_touched : {D : ℕ → ℕ → Type 0} {xs : List Item} {w w' : Words} → Within w w' → Touched xs w w' → ((f s : ℕ) → D f s → EnvelopeField f → ⊥) →
    Agree D w w'
agree_touched g h no-envelope = record { room = within_cap g; cells = λ f s d. h.cells f s (λ q. no-envelope f s d q.0) }

-- ---- the header

pub header_set : (w : Words) (i : ℕ) (z : ℤ) → 1 ≤ cap w → i < 64 → word (wset w i z) i ≡ z
header_set w i z h k = wset_same w i z (omega (arith, (cap_there w refl h).room))

-- ---- what is kept where

-- the offers of these items, and their tree with its envelopes
abbrev pub OffersHere : List Item → ℕ → ℕ → Type 0
OffersHere xs f s = (OfferField f ⊎ EnvelopeField f) × In s xs

-- the offers and ranks of these items, and an index of them
abbrev pub IndexHere : ℕ → List Item → ℕ → ℕ → Type 0
IndexHere k xs f s = ((f ≤ rank_field) ⊎ Field k f) × In s xs

-- the chain of these free slots
abbrev pub FreeHere : List ℕ → ℕ → ℕ → Type 0
FreeHere ss f s = ((f ≡ number_field) ⊎ (f ≡ next_free_field)) × Memᴰ s ss

pub rank_apart : IndexField rank_field → ⊥
rank_apart n = omega (arith, (index_field n).0)

-- the offers, ranks and envelopes of these items
abbrev pub TreeHere : List Item → ℕ → ℕ → Type 0
TreeHere xs f s = ((f ≤ rank_field) ⊎ EnvelopeField f) × In s xs

pub tree_index : (xs : List Item) (f s : ℕ) → TreeHere xs f s → IndexField f → ⊥
tree_index xs f s (inl h, i) n = omega (arith, (index_field n).0)
tree_index xs f s (inr h, i) n = (index_field n).1 h

pub numbers_envelope : (xs : List Item) (f s : ℕ) → IndexHere number_tree xs f s → EnvelopeField f → ⊥
numbers_envelope xs f s (inl h, i) p = omega (arith, (of_envelope p).high)
numbers_envelope xs f s (inr h, i) p = (index_field (inl h)).1 p

pub order_envelope : (xs : List Item) (f s : ℕ) → IndexHere order_tree xs f s → EnvelopeField f → ⊥
order_envelope xs f s (inl h, i) p = omega (arith, (of_envelope p).high)
order_envelope xs f s (inr h, i) p = (index_field (inr h)).1 p

pub numbers_order : (xs : List Item) (f s : ℕ) → IndexHere number_tree xs f s → Field order_tree f → ⊥
numbers_order xs f s (inl h, i) n = omega (arith, (index_field (inr n)).0)
numbers_order xs f s (inr h, i) n = indexes_apart h n

pub order_numbers : (xs : List Item) (f s : ℕ) → IndexHere order_tree xs f s → Field number_tree f → ⊥
order_numbers xs f s (inl h, i) n = omega (arith, (index_field (inl n)).0)
order_numbers xs f s (inr h, i) n = indexes_apart n h

free_low : (ss : List ℕ) (f s : ℕ) → FreeHere ss f s → f ≤ next_free_field
free_low ss f s (inl e, i) = omega arith
free_low ss f s (inr e, i) = omega arith

pub free_index : (ss : List ℕ) (f s : ℕ) → FreeHere ss f s → IndexField f → ⊥
free_index ss f s h n = omega (arith, free_low ss f s h, (index_field n).0)

pub free_envelope : (ss : List ℕ) (f s : ℕ) → FreeHere ss f s → EnvelopeField f → ⊥
free_envelope ss f s h p = omega (arith, free_low ss f s h, (of_envelope p).high)

-- ---- what such words keep

module _ {w w' : Words} where
  pub held_agree : {x e : ℕ} (h : Held Item) → Agree (OffersHere (leaves (held_shape h))) w w' → HeldIn w x e h → HeldIn w' x e h
  held_agree h g i =
      record {
        root = i.root;
        envelope = i.envelope;
        slots = rw g.room i.slots;
        kept = holds_same i.kept (same (λ f p. inl p));
        tied = tied_same i.tied (same (λ f p. inr (of_offers p)));
        stored = stored_same i.stored (same (λ f p. inr (of_rest p))) (same_inside (stored_inside i) (same (λ f p. inr (of_pieces p))));
        pieces = part_same h.whole i.pieces (same_inside (whole_inside i) (same (λ f p. inr (of_pieces p))));
        right = i.right;
      }
    where
      same : {F : ℕ → Type 0} → ((f : ℕ) → F f → OfferField f ⊎ EnvelopeField f) → Same F (leaves (held_shape h)) w w'
      same k = record { cells = λ f s p j. g.cells f s (k f p, j) }

  pub offers_agree : (held : Option (Held Item)) → Agree (OffersHere (book_lines held)) w w' → OffersIn w held → OffersIn w' held
  offers_agree none g o = tt
  offers_agree (some h) g o = held_agree h g o

  pub index_agree : {k field root : ℕ} {key : Item → ℤ} {live : List Item} {p : Part Item} → Agree (IndexHere k live) w w' →
      IndexAt w k field key root live p → IndexAt w' k field key root live p
  index_agree {k} {field} {live} {p} g n =
      record {
        index = n.index;
        root_is = n.root_is;
        slots = rw g.room n.slots;
        holds = holds_same n.holds (record { cells = λ f s q i. g.cells f s (inl (omega arith), i) });
        keyed = record { read = λ {a} m. g.cells field a.slot (inl n.index.low, at m refl) ∙ n.keyed.read m };
        index_in =
            record {
              tied = tied p n.index_in.tied (record { cells = λ f s q i. g.cells f s (inr q, inside s i) });
              balanced = n.index_in.balanced;
              falling = n.index_in.falling;
              all_live = n.index_in.all_live;
              all_there = n.index_in.all_there;
            };
      }
    where
      inside : (s : ℕ) → In s (part_leaves p) → In s live
      inside s (at m e) = at (n.index_in.all_live _ m) e

      tied : (p : Part Item) → TiedPart w k p → Same (Field k) (part_leaves p) w w' → TiedPart w' k p
      tied none t q = tt
      tied (some u) t q = tied_same t q

  pub free_agree : {ss : List ℕ} → Agree (FreeHere ss) w w' → FreeChain w ss → FreeChain w' ss
  free_agree g free_none = free_none
  free_agree g (free_more {s} {ss} low high zero next more) =
      free_more low (rw g.room high)
      (g.cells number_field s (inl refl, Memᴰ.head refl) ∙ zero)
      (g.cells next_free_field s (inr refl, Memᴰ.head refl) ∙ next)
      (free_agree (agree_less (λ f t d. (d.0, Memᴰ.tail d.1)) g) more)
