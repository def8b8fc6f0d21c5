-- The ways through the code that looks for a part's order.
use Rattle.std.specs.Prelude.{◌≡◌, refl, Bool, true, false, ℕ, ◌+◌, ◌-◌, ◌≤◌, pos, length}
use Rattle.std.proofs.Common.{sym, ◌∙◌, ap, subst, subst₂, arith}
use mathlib.Core.List.Memᴰ
use mathlib.Core.List.Pairwise
use mathlib.Core.List.{List, [], ◌∷◌, Memᴰ}
use Rattle.std.proofs.Math.Option.{none, some}
use Rattle.lists.specs.Bools.{never}
use Rattle.lists.specs.Firsts.{firsts}
use Rattle.trees.specs.Tree.{leaves}
use Rattle.trees.specs.Operations.{Part, part_leaves}
use Rattle.table.specs.Fields.{most_nodes, order_root_word}
use Rattle.table.specs.Words.{Words, word, up_to}
use Rattle.table.specs.Items.{Item, slots_none}
use Rattle.table.specs.PartTrees.{part_ref}
use Rattle.pieces.specs.Pieces.{items}
use Rattle.form.specs.Form.{InOrder, rank_of}
use Rattle.check_trees.specs.Scratch.{second_half}
use Rattle.check_trees.specs.Stretches.{stretch, span, span_same, span_length, stretch_same}
use Rattle.check_trees.specs.Deciding.{Decides, decides_no, decides_yes}
use Rattle.check_trees.specs.Loops.{Moved}
use Rattle.check_trees.specs.Laid.{item_at, items_at, items_length, slots_of, slots_back, AllPlaced, ref_low, root_read}
use Rattle.check_trees.specs.Along.{holds_placed, placed_holds, falling_apart}
use Rattle.check_order.specs.OrderTrees.{OrderTree, Trees}
use Rattle.check_order.specs.Heads.{head_slots, Heads}
use Rattle.check_order.specs.HeadItems.{head_items}
use Rattle.check_order.specs.OrderFound.{Header, OrderFound, Order}

-- ---- a tree in order

module _ {w : Words} {root n : ℕ} where
  tree_in_order : Header w root n → (t : OrderTree w root n) → InOrder w (some t.tree)
  tree_in_order h t =
      record {
        order_root = h.order_root ∙ ap pos t.laid.root;
        live_count = h.live_count ∙ ap pos (sym t.count);
        order_in = record { tied = t.laid.tied; balanced = t.laid.balanced; falling = t.falling; all_live = λ a m. m; all_there = λ a m. m };
        slots =
            record {
              low = λ {a} m. (t.laid.placed a m).low;
              high = λ {a} m. (t.laid.placed a m).high;
              apart = falling_apart rank_of t.laid.placed t.falling;
            };
        holds = placed_holds t.laid.placed t.ranged;
        ranked = t.ranked;
      }

none_in_order : {w : Words} → Header w 0 0 → InOrder w none
none_in_order h =
    record {
      order_root = h.order_root;
      live_count = h.live_count;
      order_in = record { tied = tt; balanced = tt; falling = Pairwise.nil; all_live = λ a m. m; all_there = λ a m. m };
      slots = slots_none;
      holds = record { held = λ m. elim m [ ] };
      ranked = record { read = λ m. elim m [ ] };
    }

in_order_placed : {w : Words} {p : Part Item} → InOrder w p → AllPlaced w (part_leaves p)
in_order_placed g = holds_placed g.slots g.holds

-- the tree of an order
record TreeOf (w : Words) (root n : ℕ) (p : Part Item) : Type 0 where
  tree : OrderTree w root n
  leaves_are : leaves tree.tree ≡ part_leaves p

module _ {w : Words} {root : ℕ} (er : root ≡ up_to most_nodes (word w order_root_word)) where
  root_is : (p : Part Item) → InOrder w p → root ≡ part_ref p
  root_is p g = root_read order_root_word p (in_order_placed g) er g.order_root

  tree_of : {n : ℕ} → (root ≡ 0 → ⊥) → (p : Part Item) → InOrder w p → length (part_leaves p) ≡ n → TreeOf w root n p
  tree_of d none g c = absurd (d (root_is none g))
  tree_of d (some t) g c =
      record {
        tree =
            record {
              tree = t;
              laid =
                  record {
                    root = root_is (some t) g;
                    placed = in_order_placed g;
                    tied = g.order_in.tied;
                    balanced = g.order_in.balanced;
                  };
              ranged = λ a m. (g.holds.held m).ranged;
              ranked = g.ranked;
              falling = g.order_in.falling;
              count = c;
            };
        leaves_are = refl;
      }

  none_leaves : root ≡ 0 → (p : Part Item) → InOrder w p → [] ≡ part_leaves p
  none_leaves z none g = refl
  none_leaves z (some t) g = absurd (omega (arith, root_is (some t) g, ref_low t (in_order_placed g)))

-- ---- the ways through the code

nothing_in : {A : Type 0} (xs : List A) → length xs ≡ 0 → xs ≡ []
nothing_in [] e = refl
nothing_in (a ∷ xs) e = absurd (omega arith)

-- m slots, as items
lines_length : (w : Words) (xs : List ℕ) (m : ℕ) → length (items_at w (span xs 0 m)) ≡ m
lines_length w xs m = omega (arith, items_length w (span xs 0 m), span_length xs 0 m)

module _ {w : Words} {root m n : ℕ} (er : root ≡ up_to most_nodes (word w order_root_word)) {b : Bool} (D : Decides b (Header w root n)) where
  order_no : {xs xs' : List ℕ} → length xs' ≡ length xs → (OrderFound w (items_at w (span xs 0 m)) n → ⊥) → Order w xs xs' m n false
  order_no l f = record { long = l; told = decides_no f; listed = λ e s. absurd (f s) }

  pub order_no_header : {xs : List ℕ} → b ≡ false → Order w xs xs m n false
  order_no_header e =
      order_no refl
      (λ s. never (D.complete (record {
        order_root = s.in_order.order_root ∙ ap pos (sym (root_is er s.order s.in_order));
        live_count = s.in_order.live_count ∙ ap pos s.count;
      })) e)

  module _ (eb : b ≡ true) where
    -- no root, no order
    pub order_none : {xs : List ℕ} {r : Bool} → root ≡ 0 → Decides r (n ≡ 0 × m ≡ 0) → Order w xs xs m n r
    order_none {xs} {r} z Z =
        record {
          long = refl;
          told = record { sound = λ e. found (Z.sound e); complete = λ s. Z.complete (counts s) };
          listed = λ e s. nothing_in (items_at w (span xs 0 n)) (omega (arith, lines_length w xs n, Z.sound e)) ∙ none_leaves er z s.order s.in_order;
        }
      where
        found : n ≡ 0 × m ≡ 0 → OrderFound w (items_at w (span xs 0 m)) n
        found (p, q) =
            record {
              order = none;
              in_order = none_in_order (subst₂ (Header w) z p (D.sound eb));
              count = sym p;
              firsts_are = nothing_in (items_at w (span xs 0 m)) (omega (arith, lines_length w xs m));
            }

        counts : OrderFound w (items_at w (span xs 0 m)) n → n ≡ 0 × m ≡ 0
        counts s =
            let none_there = none_leaves er z s.order s.in_order in
            let lines = s.firsts_are ∙ ap (firsts items.before) (sym none_there) in
            (sym s.count ∙ ap length (sym none_there), sym (lines_length w xs m) ∙ ap length lines)

    module _ (d : root ≡ 0 → ⊥) {xs xs₁ : List ℕ} {t : Bool} (M : m ≤ second_half) (U : Trees w root xs xs₁ n t) where
      found_tree : (s : OrderFound w (items_at w (span xs 0 m)) n) → TreeOf w root n s.order
      found_tree s = tree_of er d s.order s.in_order s.count

      pub order_no_tree : t ≡ false → Order w xs xs₁ m n false
      order_no_tree e = order_no U.long (λ s. never (U.told.complete (found_tree s).tree) e)

      module _ (et : t ≡ true) {h : Bool} (H : Decides h (Heads w xs₁ m n)) where
        abbrev ordered : List ℕ
        ordered = span xs₁ second_half (second_half + n)

        -- the slots to compare with are as they were
        lines_still : span xs₁ 0 m ≡ span xs 0 m
        lines_still = span_same xs₁ xs 0 m (λ i a b. U.same i (omega arith))

        ordered_are : (u : OrderTree w root n) → items_at w ordered ≡ leaves u.tree
        ordered_are u = U.listed et u

        head_lines : (u : OrderTree w root n) → items_at w (head_slots w 0 ordered) ≡ firsts items.before (leaves u.tree)
        head_lines u = head_items w ordered low ∙ ap (firsts items.before) (ordered_are u)
          where
            low : (s : ℕ) → Memᴰ s ordered → 1 ≤ s
            low s i = (u.laid.placed (item_at w s) (subst (Memᴰ (item_at w s)) (ordered_are u) (Memᴰ.map (item_at w) i))).low

        pub order_no_heads : h ≡ false → Order w xs xs₁ m n false
        order_no_heads e = order_no U.long (λ s. never (H.complete (heads_of s)) e)
          where
            heads_of : OrderFound w (items_at w (span xs 0 m)) n → Heads w xs₁ m n
            heads_of s =
                let u = found_tree s in
                let same : items_at w (span xs 0 m) ≡ items_at w (head_slots w 0 ordered) =
                s.firsts_are ∙ ap (firsts items.before) (sym u.leaves_are) ∙ sym (head_lines u.tree) in
                lines_still ∙ sym (slots_back w (span xs 0 m)) ∙ ap slots_of same ∙ slots_back w (head_slots w 0 ordered)

        pub order_all : {xs₂ : List ℕ} → h ≡ true → Moved xs₁ xs₂ 0 second_half n → Order w xs xs₂ m n true
        order_all {xs₂} eh S =
            record {
              long = S.long ∙ U.long;
              told = decides_yes found;
              listed = λ e s. shifted ∙ ordered_are (found_tree s).tree ∙ (found_tree s).leaves_are;
            }
          where
            u : OrderTree w root n
            u = U.told.sound et

            found : OrderFound w (items_at w (span xs 0 m)) n
            found =
                record {
                  order = some u.tree;
                  in_order = tree_in_order (D.sound eb) u;
                  count = u.count;
                  firsts_are = ap (items_at w) (sym lines_still ∙ H.sound eh) ∙ head_lines u;
                }

            shifted : items_at w (span xs₂ 0 n) ≡ items_at w ordered
            shifted =
                ap (items_at w) (stretch_same xs₂ xs₁ 0 second_half (n - 0) (λ k l. S.moved k (omega arith)) ∙ ap (stretch xs₁ second_half) (omega arith))
