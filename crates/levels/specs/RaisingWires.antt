-- Raise in words, second part: the two rests, the node above both children and its bridge are written. None of these are fields of pieces.
use Rattle.std.specs.Prelude.{◌≡◌, refl, ◌≢◌, Bool, true, false, List, ◌++◌, ℕ, ◌≤◌, ◌<◌, ℤ, pos}
use Rattle.std.proofs.Common.{sym, ◌∙◌, ap, subst, arith}
use mathlib.Core.List.Memᴰ
use Rattle.trees.specs.Tree.{node, leaves, last}
use Rattle.trees.specs.Leaves.{last_leaf}
use Rattle.dynamic.specs.OfferTree.{OfferTree, single, fork, shape}
use Rattle.table.specs.Fields.{bridge_left_field, bridge_right_field, inner_rest_field, leaf_rest_field, most_nodes, offer_tree}
use Rattle.table.specs.Words.{Words, up_to, up_to_in}
use Rattle.table.specs.Layout.{cap, cell, cset, link_at, Valid, cset_same}
use Rattle.table.proofs.LayoutLaws.{cset_other}
use Rattle.table.specs.Items.{Item, In, at, in_left, in_right, Slots, slots_left, slots_right, slots_across}
use Rattle.table.specs.Rep.{child_field, Field, a_child, a_height, ref_of, node_on, Tied, Within, within_cap, within_trans, within_cset, Only}
use Rattle.table.specs.Nodes.{Made}
use Rattle.nodes.specs.Joining.{Joined}
use Rattle.pieces.specs.Pieces.{PieceField}
use Rattle.form.specs.Stored.{node_slot, rest_field, EnvelopeField, of_offers, Touched}
use Rattle.form.specs.Frames.{RestField, bridge_u, bridge_v, inner_rest, leaf_rest, offers_apart, rests_apart, of_rest, Same, tied_same, slots_within}
use Rattle.levels.specs.RaisingRests.{Tells, tells_field, tells_in, tells_last, tells_own, rest_field_lem, node_in, RestSet, rest_within, rest_written}

-- ---- the fields

-- field f of slot s is one of those written
pub data Wires (l r : OfferTree Item) (f s : ℕ) : Type 0 where
  wires_left : f ≡ rest_field l → s ≡ node_slot l → Wires l r f s
  wires_right : f ≡ rest_field r → s ≡ node_slot r → Wires l r f s
  wires_node : Field offer_tree f → In s (leaves (shape l) ++ leaves (shape r)) → Wires l r f s
  wires_u : f ≡ bridge_left_field → s ≡ (last (shape l)).slot → Wires l r f s
  wires_v : f ≡ bridge_right_field → s ≡ (last (shape l)).slot → Wires l r f s

-- a rest's field is that of an inner node or of a leaf
record Rest (f : ℕ) : Type 0 where
  low : inner_rest_field ≤ f
  high : f ≤ leaf_rest_field

a_rest : (t : OfferTree Item) → Rest (rest_field t)
a_rest (single a) = omega arith
a_rest (fork u v l ql qr r) = omega arith

-- a field of the tree of offers: none of a bridge's, and none of a rest's
record OfOffers (f : ℕ) : Type 0 where
  no_bridge_u : f ≢ bridge_left_field
  no_bridge_v : f ≢ bridge_right_field
  no_inner_rest : f ≢ inner_rest_field
  no_leaf_rest : f ≢ leaf_rest_field

of_offers_field : {f : ℕ} → Field offer_tree f → OfOffers f
of_offers_field {f} (a_child side e) = child side e
  where
    child : (side : Bool) → f ≡ child_field offer_tree side → OfOffers f
    child false d = omega arith
    child true d = omega arith
of_offers_field (a_height e) = omega arith

node_apart : {f : ℕ} → RestField f → Field offer_tree f → ⊥
node_apart (bridge_u e) g = (of_offers_field g).no_bridge_u e
node_apart (bridge_v e) g = (of_offers_field g).no_bridge_v e
node_apart (inner_rest e) g = (of_offers_field g).no_inner_rest e
node_apart (leaf_rest e) g = (of_offers_field g).no_leaf_rest e

module _ {l r : OfferTree Item} {f s : ℕ} where
  wires_field : Wires l r f s → EnvelopeField f
  wires_field (wires_left e h) = of_rest (rest_field_lem l e)
  wires_field (wires_right e h) = of_rest (rest_field_lem r e)
  wires_field (wires_node g i) = of_offers g
  wires_field (wires_u e h) = of_rest (bridge_u e)
  wires_field (wires_v e h) = of_rest (bridge_v e)

  wires_in : Wires l r f s → In s (leaves (shape l) ++ leaves (shape r))
  wires_in (wires_left e h) = in_left (leaves (shape r)) (node_in l h)
  wires_in (wires_right e h) = in_right (leaves (shape l)) (node_in r h)
  wires_in (wires_node g i) = i
  wires_in (wires_u e h) = in_left (leaves (shape r)) (at (last_leaf (shape l)) h)
  wires_in (wires_v e h) = in_left (leaves (shape r)) (at (last_leaf (shape l)) h)

  no_piece : PieceField f → Wires l r f s → ⊥
  no_piece p (wires_left e h) = rests_apart p (rest_field_lem l e)
  no_piece p (wires_right e h) = rests_apart p (rest_field_lem r e)
  no_piece p (wires_node g i) = offers_apart p g
  no_piece p (wires_u e h) = rests_apart p (bridge_u e)
  no_piece p (wires_v e h) = rests_apart p (bridge_v e)

  module _ {c : ℕ} (slots : Slots c (leaves (shape l) ++ leaves (shape r))) where
    -- nothing that the left child tells, ..
    pub left_untold : Tells f s l → Wires l r f s → ⊥
    left_untold i (wires_left e h) = tells_own (slots_left (leaves (shape r)) slots) i e h
    left_untold i (wires_right e h) = slots_across (leaves (shape l)) slots (tells_in i) (node_in r h)
    left_untold i (wires_node g j) = node_apart (tells_field i) g
    left_untold i (wires_u e h) = tells_last (slots_left (leaves (shape r)) slots) i (λ d. omega arith) h
    left_untold i (wires_v e h) = tells_last (slots_left (leaves (shape r)) slots) i (λ d. omega arith) h

    -- .. nor the right one
    pub right_untold : Tells f s r → Wires l r f s → ⊥
    right_untold i (wires_left e h) = slots_across (leaves (shape l)) slots (node_in l h) (tells_in i)
    right_untold i (wires_right e h) = tells_own (slots_right (leaves (shape l)) slots) i e h
    right_untold i (wires_node g j) = node_apart (tells_field i) g
    right_untold i (wires_u e h) = slots_across (leaves (shape l)) slots (at (last_leaf (shape l)) h) (tells_in i)
    right_untold i (wires_v e h) = slots_across (leaves (shape l)) slots (at (last_leaf (shape l)) h) (tells_in i)

-- ---- nothing else has changed

pub record Wired (l r : OfferTree Item) (w w' : Words) : Type 0 where
  pub cells : (f s : ℕ) → ¬ Wires l r f s → cell w' f s ≡ cell w f s

module _ {l r : OfferTree Item} where
  wired_trans : {w w' w'' : Words} → Wired l r w w' → Wired l r w' w'' → Wired l r w w''
  wired_trans g h = record { cells = λ f s d. h.cells f s d ∙ g.cells f s d }

  wired_cset : {f s : ℕ} (w : Words) (z : ℤ) → Wires l r f s → Wired l r w (cset w f s z)
  wired_cset {f} {s} w z i =
      record { cells = λ f' s' d. cset_other w f s z (λ e. d (subst (λ n. Wires l r n s') (sym e.0) (subst (Wires l r f) (sym e.1) i))) }

  wired_only : {w w' : Words} → Only offer_tree (leaves (shape l) ++ leaves (shape r)) w w' → Wired l r w w'
  wired_only g = record { cells = λ f s d. g.cells f s (λ h. d (wires_node h.0 h.1)) }

  module _ {w w' : Words} (g : Wired l r w w') where
    pub wired_touched : Touched (leaves (shape l) ++ leaves (shape r)) w w'
    wired_touched = record { cells = λ f s d. g.cells f s (λ h. d (wires_field h, wires_in h)) }

    pub wired_pieces : (xs : List Item) → Same PieceField xs w w'
    wired_pieces xs = record { cells = λ f s p i. g.cells f s (no_piece p) }

-- ---- what is written

-- the words with the node x over both trees, its bridge, and the children's rests
pub record AfterWires (l r : OfferTree Item) (w w' : Words) (x a b u v : ℕ) : Type 0 where
  pub within : Within w w'
  pub root : x ≡ ref_of (node (shape l) (shape r))
  pub tied : Tied w' offer_tree (node (shape l) (shape r))
  pub left_rest : cell w' (rest_field l) (node_slot l) ≡ pos a
  pub right_rest : cell w' (rest_field r) (node_slot r) ≡ pos b
  pub left_end : link_at w' bridge_left_field (last (shape l)).slot ≡ u
  pub right_end : link_at w' bridge_right_field (last (shape l)).slot ≡ v
  pub only : Wired l r w w'

no_node : (t : OfferTree Item) → Field offer_tree (rest_field t) → ⊥
no_node t = node_apart (rest_field_lem t refl)

-- one field written
record Put (f s : ℕ) (z : ℤ) (w w' : Words) : Type 0 where
  put : w' ≡ cset w f s z

module _ {w w' : Words} {f s : ℕ} {z : ℤ} (p : Put f s z w w') where
  here : Valid w f s → cell w' f s ≡ z
  here h = ap (λ k. cell k f s) p.put ∙ cset_same z h

  elsewhere : {f' s' : ℕ} → ¬ ((f' ≡ f) × (s' ≡ s)) → cell w' f' s' ≡ cell w f' s'
  elsewhere {f'} {s'} d = ap (λ k. cell k f' s') p.put ∙ cset_other w f s z d

  -- a field that is none of the tree of offers
  tree_kept : (Field offer_tree f → ⊥) → (xs : List Item) → Same (Field offer_tree) xs w w'
  tree_kept d xs = record { cells = λ f' s' g i. elsewhere (λ h. d (subst (Field offer_tree) h.0 g)) }

  put_within : Within w w'
  put_within = subst (Within w) (sym p.put) (within_cset w f s z)

  put_wired : {l r : OfferTree Item} → Wires l r f s → Wired l r w w'
  put_wired {l} {r} i = subst (Wired l r w) (sym p.put) (wired_cset w z i)

same_trans : {F : ℕ → Type 0} {xs : List Item} {w w' w'' : Words} → Same F xs w w' → Same F xs w' w'' → Same F xs w w''
same_trans p q = record { cells = λ f s i j. q.cells f s i j ∙ p.cells f s i j }

-- two trees of offers side by side, before a node is put above them
pub record Unwired (w : Words) (gap lx rx : ℕ) (l r : OfferTree Item) : Type 0 where
  pub left_root : lx ≡ ref_of (shape l)
  pub right_root : rx ≡ ref_of (shape r)
  pub left_tied : Tied w offer_tree (shape l)
  pub right_tied : Tied w offer_tree (shape r)
  pub seam : gap ≡ (last (shape l)).slot
  pub slots : Slots (cap w) (leaves (shape l) ++ leaves (shape r))

-- the words with both rests
record AfterRests (l r : OfferTree Item) (w w' : Words) (a b : ℕ) : Type 0 where
  within : Within w w'
  left : cell w' (rest_field l) (node_slot l) ≡ pos a
  right : cell w' (rest_field r) (node_slot r) ≡ pos b
  tree : (xs : List Item) → Same (Field offer_tree) xs w w'
  only : Wired l r w w'

-- a slot has the field of a rest
valid_rest : {w : Words} (t : OfferTree Item) → Slots (cap w) (leaves (shape t)) → Valid w (rest_field t) (node_slot t)
valid_rest {w} t s = go (node_in t refl)
  where
    go : In (node_slot t) (leaves (shape t)) → Valid w (rest_field t) (node_slot t)
    go (at m e) = record { low = omega (arith, s.low m); high = omega (arith, s.high m); field = omega (arith, a_rest t) }

module _ {w w₁ w₂ : Words} {gap lx rx a b : ℕ} {l r : OfferTree Item} (given : Unwired w gap lx rx l r) (set-left : RestSet lx a w w₁)
    (set-right : RestSet rx b w₁ w₂) where
  after_rests : AfterRests l r w w₂ a b
  after_rests =
      record {
        within = within_trans (rest_within set-left) (rest_within set-right);
        left =
            elsewhere second (λ h. slots_across (leaves (shape l)) given.slots (node_in l refl) (node_in r h.1))
            ∙ here first (valid_rest l (slots_left (leaves (shape r)) given.slots));
        right = here second (valid_rest r right_slots);
        tree = λ xs. same_trans (tree_kept first (no_node l) xs) (tree_kept second (no_node r) xs);
        only = wired_trans (put_wired first (wires_left refl refl)) (put_wired second (wires_right refl refl));
      }
    where
      right_slots : Slots (cap w₁) (leaves (shape r))
      right_slots = slots_right (leaves (shape l)) (slots_within (rest_within set-left) given.slots)

      first : Put (rest_field l) (node_slot l) (pos a) w w₁
      first = record { put = rest_written l (slots_left (leaves (shape r)) given.slots) given.left_root set-left }

      second : Put (rest_field r) (node_slot r) (pos b) w₁ w₂
      second = record { put = rest_written r right_slots given.right_root set-right }

module _ {w w₂ w₃ w₄ w₅ : Words} {gap lx rx x a b u v : ℕ} {l r : OfferTree Item} (given : Unwired w gap lx rx l r) (rests : AfterRests l r w w₂ a b) where
  after_node :
      Joined (node_on false) offer_tree false gap lx rx w₂ w₃ x →
      w₄ ≡ cset w₃ bridge_left_field gap (pos u) →
      w₅ ≡ cset w₄ bridge_right_field gap (pos v) →
      (u ≤ most_nodes) × (v ≤ most_nodes) →
      AfterWires l r w w₅ x a b u v
  after_node joined eu ev small =
      record {
        within = within_trans within (within_trans (put_within pu) (put_within pv));
        root = made.rep.root;
        tied = tied_same (tied_same made.rep.tied (tree_kept pu (node_apart (bridge_u refl)) _)) (tree_kept pv (node_apart (bridge_v refl)) _);
        left_rest = kept l ∙ rests.left;
        right_rest = kept r ∙ rests.right;
        left_end = number small.0 (elsewhere pv (λ h. omega (arith, h.0)) ∙ here pu (valid bridge_left_field (omega arith) within));
        right_end = number small.1 (here pv (valid bridge_right_field (omega arith) (within_trans within (put_within pu))));
        only = wired_trans rests.only (wired_trans (wired_only made.only)
            (wired_trans (put_wired pu (wires_u refl refl)) (put_wired pv (wires_v refl refl))));
      }
    where
      within : Within w w₃
      within = within_trans rests.within joined.within

      pu : Put bridge_left_field (last (shape l)).slot (pos u) w₃ w₄
      pu = record { put = eu ∙ ap (λ s. cset w₃ bridge_left_field s (pos u)) given.seam }

      pv : Put bridge_right_field (last (shape l)).slot (pos v) w₄ w₅
      pv = record { put = ev ∙ ap (λ s. cset w₄ bridge_right_field s (pos v)) given.seam }

      made : Made offer_tree w₂ w₃ x (node (shape l) (shape r))
      made =
          joined.made (shape l) (shape r)
          (record {
            kind = omega arith;
            one = given.left_root;
            other = given.right_root;
            slots = slots_within rests.within given.slots;
            tied_one = tied_same given.left_tied (rests.tree _);
            tied_other = tied_same given.right_tied (rests.tree _);
          })
          given.seam

      -- what a node and its bridge leave of a rest
      kept : (t : OfferTree Item) → cell w₅ (rest_field t) (node_slot t) ≡ cell w₂ (rest_field t) (node_slot t)
      kept t =
          elsewhere pv (λ h. omega (arith, h.0, a_rest t)) ∙ elsewhere pu (λ h. omega (arith, h.0, a_rest t))
          ∙ made.only.cells (rest_field t) (node_slot t) (λ h. no_node t h.0)

      valid : (f : ℕ) {w' : Words} → f < 32 → Within w w' → Valid w' f (last (shape l)).slot
      valid f h g =
          let m = Memᴰ.append_left (leaves (shape r)) (last_leaf (shape l)) in
          record { low = given.slots.low m; high = omega (arith, given.slots.high m, within_cap g); field = h }

      number : {z : ℤ} {n : ℕ} → n ≤ most_nodes → z ≡ pos n → up_to most_nodes z ≡ n
      number {n} h e = ap (up_to most_nodes) e ∙ up_to_in most_nodes n h

pub after_wires :
    {w w₁ w₂ w₃ w₄ w₅ : Words} {gap lx rx x a b u v : ℕ} {l r : OfferTree Item} →
    Unwired w gap lx rx l r →
    RestSet lx a w w₁ →
    RestSet rx b w₁ w₂ →
    Joined (node_on false) offer_tree false gap lx rx w₂ w₃ x →
    w₄ ≡ cset w₃ bridge_left_field gap (pos u) →
    w₅ ≡ cset w₄ bridge_right_field gap (pos v) →
    (u ≤ most_nodes) × (v ≤ most_nodes) →
    AfterWires l r w w₅ x a b u v
after_wires given set-left set-right = after_node given (after_rests given set-left set-right)
