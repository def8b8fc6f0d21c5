-- A subtree of offers whose shape, offers and order are known, and the envelopes that may be stored with it.
use Rattle.std.specs.Prelude.{◌≡◌, refl, true, false, ◌≢◌, ℕ, ◌-◌, T}
use Rattle.std.proofs.Common.{sym, ◌∙◌, ap, subst, arith, le-ltb, lt-ltb}
use mathlib.Core.HLevel.{¬_prop}
use mathlib.Core.List.{List, [], ◌∷◌, Memᴰ, Pairwise}
use Rattle.lists.specs.Members.{pairs_cons}
use Rattle.envelopes.specs.Envelope.{Ordered, ordered_nil, ordered_cons, Env}
use Rattle.envelopes.specs.EnvelopeLaws.{ordered_left, ordered_right}
use Rattle.trees.specs.Tree.{Tree, node, leaves, last}
use Rattle.trees.specs.Leaves.{last_leaf}
use Rattle.dynamic.specs.OfferTree.{OfferTree, single, fork, shape}
use Rattle.dynamic.specs.Valid.{Valid}
use Rattle.dynamic.specs.Lower.{valid_env}
use Rattle.table.specs.Fields.{inner_rest_field, leaf_rest_field, most_slots, offer_tree}
use Rattle.table.specs.Words.{Words}
use Rattle.table.specs.Layout.{cap, cap_most, cell}
use Rattle.table.specs.Items.{Item, Apart, Slots}
use Rattle.table.specs.Rep.{child_at}
use Rattle.table.specs.Threads.{Holds}
use Rattle.pieces.specs.Pieces.{items, item_laws_lem}
use Rattle.form.specs.Stored.{Stored, node_slot, rest_field}
use Rattle.form.specs.RestWords.{rest_word}
use Rattle.check_trees.specs.Laid.{item_at, items_at, AllPlaced, Laid, laid_children}
use Rattle.check_trees.specs.Along.{AllRanged, placed_holds}
use Rattle.check_merge.specs.PieceTrees.{AllKnown}

-- ---- shape, offers and order

pub record Stands (w : Words) (x : ℕ) (t : Tree Item) : Type 0 where
  pub laid : Laid w offer_tree x t
  pub ranged : AllRanged (leaves t)
  pub ordered : Ordered items (leaves t)

module _ {w : Words} {x : ℕ} {l r : Tree Item} (s : Stands w x (node l r)) where
  pub stands_left : Stands w (child_at w offer_tree false x) l
  stands_left = record {
    laid = (laid_children s.laid).left;
    ranged = λ a m. s.ranged a (mathlib.Core.List.Memᴰ.append_left (leaves r) m);
    ordered =
        ordered_left items (leaves l) (leaves r) s.ordered;
  }

  pub stands_right : Stands w (child_at w offer_tree true x) r
  stands_right = record {
    laid = (laid_children s.laid).right;
    ranged = λ a m. s.ranged a (mathlib.Core.List.Memᴰ.append_right (leaves l) m);
    ordered =
        ordered_right items (leaves l) (leaves r) s.ordered;
  }

-- items in order are in slots of their own
pub ordered_slots : {w : Words} {xs : List Item} → AllPlaced w xs → Ordered items xs → Pairwise Apart xs
ordered_slots p ordered_nil = Pairwise.nil
ordered_slots {w} p (ordered_cons {a = a} {ls = ls} h o) = pairs_cons (λ b c. ¬_prop) (λ b m e. apart b m e) (ordered_slots (λ b m. p b (mathlib.Core.List.Memᴰ.tail m)) o)
  where
    same : (b : Item) → Memᴰ b ls → a.slot ≡ b.slot → a ≡ b
    same b m e = (p a (mathlib.Core.List.Memᴰ.head refl)).is ∙ ap (item_at w) e ∙ sym (p b (mathlib.Core.List.Memᴰ.tail m)).is

    apart : (b : Item) → Memᴰ b ls → a.slot ≢ b.slot
    apart b m e = item_laws_lem.before_irrefl a (subst (λ (c : Item). T (items.before a c)) (sym (same b m e)) (h b m))

module _ {w : Words} {x : ℕ} {t : Tree Item} (s : Stands w x t) where
  pub stands_slots : Slots (cap w) (leaves t)
  stands_slots =
      record { low = λ {a} m. (s.laid.placed a m).low; high = λ {a} m. (s.laid.placed a m).high; apart = ordered_slots s.laid.placed s.ordered }

  pub stands_holds : Holds w (leaves t)
  stands_holds = placed_holds s.laid.placed s.ranged

  -- slots whose items are among the leaves
  pub stands_known : (ss : List ℕ) → ((a : Item) → Memᴰ a (items_at w ss) → Memᴰ a (leaves t)) → AllKnown w ss
  stands_known [] f n m = elim m [ ]
  stands_known (n ∷ ss) f m (mathlib.Core.List.Memᴰ.head e) =
      let i : Memᴰ (item_at w n) (leaves t) = f (item_at w n) (mathlib.Core.List.Memᴰ.head refl) in
      rw e (record {
        low = (s.laid.placed (item_at w n) i).low;
        high = (s.laid.placed (item_at w n) i).high;
        in_range =
            record { ranged = s.ranged (item_at w n) i };
      })
  stands_known (n ∷ ss) f m (mathlib.Core.List.Memᴰ.tail i) = stands_known ss (λ a j. f a (mathlib.Core.List.Memᴰ.tail j)) m i

-- ---- with envelopes stored

pub record Decorated (w : Words) (t : Tree Item) (es : List Item) : Type 0 where
  pub offers : OfferTree Item
  pub shape_is : shape offers ≡ t
  pub stored : Stored w offers
  pub valid : Valid items offers es

pub decorated_env : {w : Words} {t : Tree Item} {es : List Item} → Decorated w t es → Env items (leaves t) es
decorated_env {es} d = subst (λ (u : Tree Item). Env items (leaves u) es) d.shape_is (valid_env items item_laws_lem d.valid)

-- the word of what stays with a node, by its field
pub rest_is : {w : Words} (t : OfferTree Item) {x : ℕ} → Laid w offer_tree x (shape t) → rest_word w x ≡ cell w (rest_field t) (node_slot t)
rest_is {w} (single a) {x} h =
    rw (le-ltb most_slots x (omega (arith, h.root, (h.placed a (mathlib.Core.List.Memᴰ.head refl)).high, cap_most w))) (ap (cell w leaf_rest_field) h.root)
rest_is {w} (fork u v l ql qr r) {x} h =
    let here : x - most_slots ≡ (last (shape l)).slot = omega (arith, h.root) in
    rw (lt-ltb most_slots x (omega (arith, h.root, (h.placed (last (shape l)) (mathlib.Core.List.Memᴰ.append_left (leaves (shape r)) (last_leaf (shape l)))).low)))
    (ap (cell w inner_rest_field) here)
