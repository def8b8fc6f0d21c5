-- A tree of pieces kept in a table, its lines threaded and in order; and what the code's comparison says of two such trees.
use Rattle.std.specs.Prelude.{ℕ, ◌-◌, ◌≤◌, ◌<◌, ◌≡◌, refl, Bool, true, false, not, ◌||◌, T, ℤ, pos, neg_ℤ, ◌+ℤ◌, ◌-ℤ◌, ◌*ℤ◌}
use Rattle.std.proofs.Common.{arith, sym, ◌∙◌, ap, ap₂}
use mathlib.Core.List.Memᴰ
use mathlib.Core.List.{IsChain}
use mathlib.Mathlib.Data.List.Chain.IsChain
use Rattle.std.specs.Int.Signed.{le_z, lt_z}
use Rattle.lists.specs.Bools.{and_both, and_right}
use Rattle.integers.specs.Parts.{int_rules, gap_above}
use Rattle.offers.specs.Offers.{between, crossing_numerator, crossing_denominator}
use Rattle.offers.specs.Sizes.{rate_of_lem, base_of_lem, base_gap_in_range, rate_gap_in_range}
use Rattle.offers.specs.Bounded.{bounded, bounded_in}
use Rattle.trees.specs.Tree.{Tree, leaf, node, leaves, first, last}
use Rattle.trees.specs.Leaves.{first_leaf, last_leaf}
use Rattle.meeting.specs.Machine.{Side, left, right, away, toward, local_at_most}
use Rattle.table.specs.Fields.{most_slots, next_piece_field, piece_tree}
use Rattle.table.specs.Words.{Words}
use Rattle.table.specs.Layout.{cap_most, link_at}
use Rattle.table.specs.Items.{Item, slots_left, slots_right}
use Rattle.table.specs.Rep.{child_field, child_at, ref_of, Tied, tied_node, Rep}
use Rattle.table.specs.Threads.{Held, Holds, holds_left, holds_right, Next, Threaded, chain_seam}
use Rattle.walks.specs.ItemLines.{item_figure, rate_of, base_of, Falls, scaled, price_test}
use Rattle.prices.specs.Prices.{rate_at, base_at, numerator_at, denominator_at, price_in, at_most_at, kept_in, kept_leaf, kept_inner, above_at, above_one, above_two}

-- node x is the root of a tree of pieces
pub record Pieces (w : Words) (x : ℕ) (t : Tree Item) : Type 0 where
  pub rep : Rep w piece_tree x t
  pub holds : Holds w (leaves t)
  pub threaded : Threaded w (leaves t)
  pub falling : IsChain Falls (leaves t)

-- ---- children; a side of the code is a Bool, false for left

abbrev pub side_of : Bool → Side
side_of false = left
side_of true = right

module _ {w : Words} {x : ℕ} {l r : Tree Item} (p : Pieces w x (node l r)) where
  pub seam_at_lem : x - most_slots ≡ (last l).slot
  seam_at_lem = omega (arith, p.rep.root)

  pub inner_high : most_slots < x
  inner_high = omega (arith, p.rep.root, (slots_left (leaves r) p.rep.slots).low (last_leaf l))

  pub pieces_left : Pieces w (child_at w piece_tree false x) l
  pieces_left =
      record {
        rep = record {
          kind = p.rep.kind;
          root = ap (link_at w (child_field piece_tree false)) seam_at_lem ∙ at_left p.rep.tied;
          slots =
              slots_left (leaves r) p.rep.slots;
          tied = tied_left p.rep.tied;
        };
        holds = holds_left (leaves r) p.holds;
        threaded = IsChain.left_of_append (leaves r) p.threaded;
        falling = IsChain.left_of_append (leaves r) p.falling;
      }
    where
      at_left : Tied w piece_tree (node l r) → link_at w (child_field piece_tree false) (last l).slot ≡ ref_of l
      at_left (tied_node tl tr el er eh) = el

      tied_left : Tied w piece_tree (node l r) → Tied w piece_tree l
      tied_left (tied_node tl tr el er eh) = tl

  pub pieces_right : Pieces w (child_at w piece_tree true x) r
  pieces_right =
      record {
        rep = record {
          kind = p.rep.kind;
          root = ap (link_at w (child_field piece_tree true)) seam_at_lem ∙ at_right p.rep.tied;
          slots =
              slots_right (leaves l) p.rep.slots;
          tied = tied_right p.rep.tied;
        };
        holds = holds_right (leaves l) p.holds;
        threaded = IsChain.right_of_append (leaves l) p.threaded;
        falling = IsChain.right_of_append (leaves l) p.falling;
      }
    where
      at_right : Tied w piece_tree (node l r) → link_at w (child_field piece_tree true) (last l).slot ≡ ref_of r
      at_right (tied_node tl tr el er eh) = er

      tied_right : Tied w piece_tree (node l r) → Tied w piece_tree r
      tied_right (tied_node tl tr el er eh) = tr

pub pieces_away : {w : Words} {x : ℕ} {l r : Tree Item} (side : Bool) → Pieces w x (node l r) → Pieces w (child_at w piece_tree side x) (away (side_of side) l r)
pieces_away false p = pieces_left p
pieces_away true p = pieces_right p

pub pieces_toward : {w : Words} {x : ℕ} {l r : Tree Item} (side : Bool) → Pieces w x (node l r) →
    Pieces w (child_at w piece_tree (not side) x) (toward (side_of side) l r)
pieces_toward false p = pieces_right p
pieces_toward true p = pieces_left p

pub leaf_low : {w : Words} {x : ℕ} {a : Item} → Pieces w x (leaf a) → x ≤ most_slots
leaf_low {w} p = omega (arith, p.rep.root, p.rep.slots.high (Memᴰ.head refl), cap_most w)

-- ---- the code's comparison

-- of a slot that holds an offer, the code reads its rate and base
module _ {w : Words} {a : Item} (h : Held w a) where
  pub read_rate : rate_at w a.slot ≡ rate_of a
  read_rate = ap (bounded _ _) h.rate ∙ bounded_in _ _ (rate_of a) (rate_of_lem a.offer h.ranged)

  read_base : base_at w a.slot ≡ base_of a
  read_base = ap (bounded _ _) h.base ∙ bounded_in _ _ (base_of a) (base_of_lem a.offer h.ranged)

  pub read_price : (n d : ℤ) → price_in w a.slot n d ≡ scaled a n d
  read_price n d = ap₂ (λ (b r : ℤ). b *ℤ d +ℤ r *ℤ n) read_base read_rate

-- of a slot that leads to the next, the crossing
module _ {w : Words} {a b : Item} (h : Held w a) (k : Held w b) (n : Next w a b) (f : Falls a b) where
  gap_ranged : T (between (pos 0) (pos 200_000) (rate_of a -ℤ rate_of b))
  gap_ranged =
      let g : ℤ = rate_of a -ℤ rate_of b in
      and_both (le_z (pos 0) g) (le_z g (pos 200_000)) (above (gap_above (rate_of a) (rate_of b) f))
      (and_right (le_z (neg_ℤ (pos 200_000)) g) (le_z g (pos 200_000)) (rate_gap_in_range (rate_of a) (rate_of b) (rate_of_lem a.offer h.ranged)
      (rate_of_lem b.offer k.ranged)))
    where
      above : T (lt_z (pos 0) (rate_of a -ℤ rate_of b)) → T (le_z (pos 0) (rate_of a -ℤ rate_of b))
      above t = omega (arith, int_rules)

  pub read_numerator : numerator_at w a.slot ≡ crossing_numerator a.offer b.offer
  read_numerator =
      ap (bounded _ _) n.numerator
      ∙ bounded_in _ _ _ (base_gap_in_range (base_of a) (base_of b) (base_of_lem a.offer h.ranged) (base_of_lem b.offer k.ranged))

  pub read_denominator : denominator_at w a.slot ≡ crossing_denominator a.offer b.offer
  read_denominator = ap (bounded _ _) n.denominator ∙ bounded_in _ _ _ gap_ranged

  -- the line of another item that is held, at that crossing
  read_test : {v : Words} {e : Item} → Held v e → at_most_at w a.slot v e.slot ≡ item_figure.at_most e a (item_figure.cross a b)
  read_test {v} {e} g = simp (read_numerator, read_denominator, read_price g, read_price h) (sym (price_test e a a b f))

-- what a node's slot holds
pub record Seam (w : Words) (l r : Tree Item) : Type 0 where
  pub held : Held w (last l)
  pub held_next : Held w (first r)
  pub next : Next w (last l) (first r)
  pub falls : Falls (last l) (first r)
  pub some : 1 ≤ (last l).slot

pub seam_of : {w : Words} {x : ℕ} {l r : Tree Item} → Pieces w x (node l r) → Seam w l r
seam_of {l} {r} p =
    record {
      held = p.holds.held (Memᴰ.append_left (leaves r) (last_leaf l));
      held_next = p.holds.held (Memᴰ.append_right (leaves l) (first_leaf r));
      next = chain_seam l r p.threaded;
      falls = chain_seam l r p.falling;
      some = p.rep.slots.low (Memᴰ.append_left (leaves r) (last_leaf l));
    }

-- The code compares the crossing at a node with the local envelope of another as the machine does.
pub seam_above : {w v : Words} {x y : ℕ} {l r t : Tree Item} → Pieces w x (node l r) → Pieces v y t →
    above_at w (last l).slot v y ≡ local_at_most item_figure t (last l) (item_figure.cross (last l) (first r))
seam_above {w} {v} {x} {y} {l} {r} {t = leaf e} p q =
    let s = seam_of p in
    above_one w (last l).slot v y s.some (leaf_low q)
    ∙ ap (at_most_at w (last l).slot v) (kept_leaf y (leaf_low q) ∙ q.rep.root)
    ∙ read_test s.held s.held_next s.next s.falls (q.holds.held (Memᴰ.head refl))
seam_above {w} {v} {x} {y} {l} {r} {t = node l' r'} p q =
    let s = seam_of p in
    let z = seam_of q in
    let k : kept_in y ≡ (last l').slot = kept_inner y (inner_high q) ∙ seam_at_lem q in
    above_two w (last l).slot v y s.some (inner_high q)
    ∙ ap₂ ◌||◌
    (ap (at_most_at w (last l).slot v) k ∙ read_test s.held s.held_next s.next s.falls z.held)
    (ap (at_most_at w (last l).slot v) (ap (link_at v next_piece_field) k ∙ z.next.next) ∙ read_test s.held s.held_next s.next s.falls z.held_next)
