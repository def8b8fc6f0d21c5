-- A subtree of offers in words, with the envelope that it has but that no words hold whole.
use Rattle.std.specs.Prelude.{◌≡◌, true, false, ℕ, ◌-◌}
use Rattle.std.proofs.Common.{◌∙◌, ap, arith}
use mathlib.Core.List.Memᴰ
use mathlib.Core.List.{List, [], ◌∷◌, ◌++◌, Memᴰ}
use Rattle.lists.specs.Places.{sublist_mem}
use Rattle.envelopes.specs.Envelope.{Ordered, Env}
use Rattle.envelopes.specs.EnvelopeLaws.{ordered_left, ordered_right}
use Rattle.trees.specs.Tree.{leaves, last}
use Rattle.trees.specs.Leaves.{last_leaf}
use Rattle.trees.specs.Operations.{Part, part_leaves}
use Rattle.trees.specs.Balanced.{AvlP}
use Rattle.dynamic.specs.OfferTree.{OfferTree, fork, shape, Held}
use Rattle.dynamic.specs.Valid.{Valid, valid_fork}
use Rattle.dynamic.specs.Lower.{valid_env}
use Rattle.table.specs.Fields.{bridge_left_field, bridge_right_field, most_slots, offer_tree, rate_field}
use Rattle.table.specs.Words.{Words}
use Rattle.table.specs.Layout.{cap, cell, link_at}
use Rattle.table.specs.Items.{Item, Slots, slots_left, slots_right, slots_sublist}
use Rattle.table.specs.Rep.{child_at, ref_of, Tied, tied_node}
use Rattle.table.specs.Threads.{Holds, Held as Kept, holds_left, holds_right}
use Rattle.pieces.specs.Pieces.{items, item_laws_lem, rate_of, Standing}
use Rattle.form.specs.Stored.{Stored, stored_fork, RestIn, HeldIn}
use Rattle.form.specs.RestWords.{rest_at, rest_at_lem}

pub record Subtree (w : Words) (x : ℕ) (t : OfferTree Item) (es : List Item) : Type 0 where
  pub root : x ≡ ref_of (shape t)
  pub slots : Slots (cap w) (leaves (shape t))
  pub kept : Holds w (leaves (shape t))
  pub tied : Tied w offer_tree (shape t)
  pub stored : Stored w t
  pub ordered : Ordered items (leaves (shape t))
  pub valid : Valid items t es

pub held_subtree : {w : Words} {x e : ℕ} {h : Held Item} → HeldIn w x e h → Subtree w x h.tree (part_leaves h.whole)
held_subtree k =
    record {
      root = k.root;
      slots = k.slots;
      kept = k.kept;
      tied = k.tied;
      stored = k.stored;
      ordered = k.right.ordered;
      valid = k.right.valid;
    }

-- a piece of its envelope is kept in its slot
pub subtree_held : {w : Words} {x : ℕ} {t : OfferTree Item} {es : List Item} {a : Item} → Subtree w x t es → Memᴰ a es → Kept w a
subtree_held n m = n.kept.held (sublist_mem (valid_env items item_laws_lem n.valid).sub m)

-- what stays with node n, as a piece tree
rest_standing :
    {w : Words} {n : ℕ} {q : Part Item} (t : OfferTree Item) →
    n ≡ ref_of (shape t) →
    Slots (cap w) (leaves (shape t)) →
    RestIn w t q →
    Slots (cap w) (part_leaves q) →
    Holds w (part_leaves q) →
    AvlP q →
    Standing w (rest_at w n) q
rest_standing {w} {q} t d slots rest own holds balanced =
    record { root = ap (rest_at w) d ∙ rest_at_lem t q slots own rest; slots = own; holds = holds; balanced = balanced; pieces = rest.pieces }

-- ---- an inner node

-- its children, its bridge, and the piece trees that stay with its children
pub record Forked (w : Words) (x : ℕ) (u v : Item) (l r : OfferTree Item) (ql qr : Part Item) (es : List Item) : Type 0 where
  pub up_to : List Item
  pub from : List Item
  pub pieces : es ≡ (up_to ++ u ∷ []) ++ v ∷ from
  pub envelope : Env items (leaves (shape l) ++ leaves (shape r)) es
  pub left : Subtree w (child_at w offer_tree false x) l ((up_to ++ u ∷ []) ++ part_leaves ql)
  pub right : Subtree w (child_at w offer_tree true x) r (part_leaves qr ++ v ∷ from)
  pub u_at : link_at w bridge_left_field (x - most_slots) ≡ u.slot
  pub v_at : link_at w bridge_right_field (x - most_slots) ≡ v.slot
  pub rate_at : cell w rate_field (x - most_slots) ≡ rate_of (last (shape l))
  pub rest_left : Standing w (rest_at w (child_at w offer_tree false x)) ql
  pub rest_right : Standing w (rest_at w (child_at w offer_tree true x)) qr

pub forked : {w : Words} {x : ℕ} {es : List Item} (u v : Item) (l r : OfferTree Item) (ql qr : Part Item) → Subtree w x (fork u v l ql qr r) es →
    Forked w x u v l r ql qr es
forked {w} {x} {es} u v l r ql qr n = go n.tied n.stored n.valid
  where
    here : x - most_slots ≡ (last (shape l)).slot
    here = omega (arith, n.root)

    go : Tied w offer_tree (shape (fork u v l ql qr r)) → Stored w (fork u v l ql qr r) → Valid items (fork u v l ql qr r) es → Forked w x u v l r ql qr es
    go (tied_node a b el er eh) (stored_fork sl sr eu ev rl rr) (valid_fork up_to from d vl vr al ar E) =
        record {
          up_to = up_to;
          from = from;
          pieces = d;
          envelope = E;
          left = left;
          right = right;
          u_at = ap (link_at w bridge_left_field) here ∙ eu;
          v_at = ap (link_at w bridge_right_field) here ∙ ev;
          rate_at = ap (cell w rate_field) here ∙ (n.kept.held (Memᴰ.append_left (leaves (shape r)) (last_leaf (shape l)))).rate;
          rest_left = rest_standing l left.root left.slots rl (slots_right (up_to ++ u ∷ []) (slots_sublist EL.sub left.slots))
              (record { held = λ m. subtree_held left (Memᴰ.append_right (up_to ++ u ∷ []) m) }) al;
          rest_right = rest_standing r right.root right.slots rr (slots_left (v ∷ from) (slots_sublist ER.sub right.slots))
              (record { held = λ m. subtree_held right (Memᴰ.append_left (v ∷ from) m) }) ar;
        }
      where
        left : Subtree w (child_at w offer_tree false x) l ((up_to ++ u ∷ []) ++ part_leaves ql)
        left =
            record {
              root = ap (link_at w _) here ∙ el;
              slots = slots_left (leaves (shape r)) n.slots;
              kept = holds_left (leaves (shape r)) n.kept;
              tied = a;
              stored = sl;
              ordered = ordered_left items (leaves (shape l)) (leaves (shape r)) n.ordered;
              valid = vl;
            }

        right : Subtree w (child_at w offer_tree true x) r (part_leaves qr ++ v ∷ from)
        right =
            record {
              root = ap (link_at w _) here ∙ er;
              slots = slots_right (leaves (shape l)) n.slots;
              kept = holds_right (leaves (shape l)) n.kept;
              tied = b;
              stored = sr;
              ordered = ordered_right items (leaves (shape l)) (leaves (shape r)) n.ordered;
              valid = vr;
            }

        EL : Env items (leaves (shape l)) ((up_to ++ u ∷ []) ++ part_leaves ql)
        EL = valid_env items item_laws_lem vl

        ER : Env items (leaves (shape r)) (part_leaves qr ++ v ∷ from)
        ER = valid_env items item_laws_lem vr
