-- A tree of pieces in words, with the thread along its leaves and the offers in their slots; and what its root's words say.
use Rattle.std.specs.Prelude.{◌≡◌, refl, Bool, true, false, ℕ, ◌-◌, ◌≤◌, ◌<◌, ℤ}
use Rattle.std.proofs.Common.{◌∙◌, ap, arith}
use mathlib.Core.List.Memᴰ
use mathlib.Core.List.{◌++◌, Memᴰ}
use Rattle.std.proofs.Math.Dec.{T}
use Rattle.lists.specs.Bools.{is_true}
use Rattle.offers.specs.Offers.{load_in_range, rate_in_range, price_at, crossing_denominator}
use Rattle.offers.specs.Sizes.{rate_of_lem, base_of_lem, denominator_in_range, rate_gap_in_range}
use Rattle.offers.specs.Bounded.{bounded_in}
use Rattle.trees.specs.Tree.{Tree, leaf, node, leaves, first, last}
use Rattle.trees.specs.Leaves.{first_leaf, last_leaf}
use Rattle.table.specs.Fields.{most_slots, piece_tree}
use Rattle.table.specs.Words.{Words}
use Rattle.table.specs.Layout.{cap_most, link_at}
use Rattle.table.specs.Items.{Item, slots_left, slots_right}
use Rattle.table.specs.Rep.{child_field, ref_of, Tied, tied_node, Rep}
use Rattle.table.specs.Threads.{Held, Holds, holds_left, holds_right, Threaded, threaded_left, threaded_right, chain_seam}
use Rattle.prices.specs.Positions.{on_or_above}
use Rattle.query.specs.Lookup.{against}
use Rattle.query.specs.Readings.{crossing_against, kept_at, seam_at, child_toward, toward_at, mind_at, price_in}

pub record Pieces (w : Words) (x : ℕ) (t : Tree Item) : Type 0 where
  pub rep : Rep w piece_tree x t
  pub thread : Threaded w (leaves t)
  pub holds : Holds w (leaves t)

-- ---- an inner node

-- a child's pieces
pieces_left : {w : Words} {x y : ℕ} {l r : Tree Item} → Pieces w x (node l r) → Tied w piece_tree l → y ≡ ref_of l → Pieces w y l
pieces_left {w} {l} {r} p t e =
    record {
      rep = record { kind = p.rep.kind; root = e; slots = slots_left (leaves r) p.rep.slots; tied = t };
      thread = threaded_left (leaves r) p.thread;
      holds = holds_left (leaves r) p.holds;
    }

pieces_right : {w : Words} {x y : ℕ} {l r : Tree Item} → Pieces w x (node l r) → Tied w piece_tree r → y ≡ ref_of r → Pieces w y r
pieces_right {w} {l} {r} p t e =
    record {
      rep = record { kind = p.rep.kind; root = e; slots = slots_right (leaves l) p.rep.slots; tied = t };
      thread = threaded_right (leaves l) p.thread;
      holds = holds_right (leaves l) p.holds;
    }

-- the crossing that the node keeps tells where the load lies as the two pieces beside it do
module _ {w : Words} {x : ℕ} {l r : Tree Item} (q : ℤ) (p : Pieces w x (node l r)) (h : T (load_in_range q)) where
  d : ℤ
  d = crossing_denominator (last l).offer (first r).offer

  near : T (denominator_in_range d)
  unfolding d
  near = rate_gap_in_range (last l).offer.rate (first r).offer.rate (ranged (last l) (Memᴰ.append_left (leaves r) (last_leaf l)))
      (ranged (first r) (Memᴰ.append_right (leaves l) (first_leaf r)))
    where
      ranged : (a : Item) → Memᴰ a (leaves l ++ leaves r) → T (rate_in_range a.offer.rate)
      ranged a m = rate_of_lem a.offer (p.holds.held m).ranged

  seam_told : seam_at w (last l).slot q ≡ against q (last l).offer (first r).offer
  unfolding d crossing_against
  seam_told = let n = chain_seam l r p.thread in rw (n.numerator, n.denominator, bounded_in _ _ q h, bounded_in _ _ d near)

  seam_toward : child_toward w (last l).slot q ≡ link_at w (child_field piece_tree (on_or_above (against q (last l).offer (first r).offer))) (last l).slot
  unfolding d child_toward
  seam_toward = rw (seam_told, (chain_seam l r p.thread).denominator, is_true (denominator_in_range d) near)

-- the child on the load's side, and what is kept in mind
pub record Opened (w : Words) (x : ℕ) (q : ℤ) (t : Tree Item) : Type 0 where
  pub l : Tree Item
  pub r : Tree Item
  pub shape : t ≡ node l r
  pub left : on_or_above (against q (last l).offer (first r).offer) ≡ false → Pieces w (toward_at w x q) l
  pub right : on_or_above (against q (last l).offer (first r).offer) ≡ true → Pieces w (toward_at w x q) r
  pub mind : (before : ℕ) → mind_at w x q before ≡ kept_at (against q (last l).offer (first r).offer) (last l).slot before
  pub low : 1 ≤ (last l).slot

pub opened : {w : Words} {x : ℕ} {t : Tree Item} (q : ℤ) → Pieces w x t → T (load_in_range q) → most_slots < x → Opened w x q t
opened {w} {x} {t = leaf a} q p h d = absurd (omega (arith, p.rep.root, p.rep.slots.high (Memᴰ.head refl), cap_most w))
opened {w} {x} {t = node l r} q p h d = go p.rep.tied
  where
    here : x - most_slots ≡ (last l).slot
    here = omega (arith, p.rep.root)

    side : (b : Bool) → on_or_above (against q (last l).offer (first r).offer) ≡ b → toward_at w x q ≡ link_at w (child_field piece_tree b) (last l).slot
    side b e = ap (λ n. child_toward w n q) here ∙ seam_toward q p h ∙ ap (λ z. link_at w (child_field piece_tree z) (last l).slot) e

    go : Tied w piece_tree (node l r) → Opened w x q (node l r)
    go (tied_node tl tr el er eh) =
        record {
          l = l;
          r = r;
          shape = refl;
          left = λ e. pieces_left p tl (side false e ∙ el);
          right = λ e. pieces_right p tr (side true e ∙ er);
          mind = λ before. ap (λ n. kept_at (seam_at w n q) n before) here ∙ ap (λ z. kept_at z (last l).slot before) (seam_told q p h);
          low = (slots_left (leaves r) p.rep.slots).low (last_leaf l);
        }

-- ---- a leaf

pub at_leaf : {w : Words} {x : ℕ} {t : Tree Item} → Pieces w x t → x ≤ most_slots → (a : Item) × (t ≡ leaf a) × (x ≡ a.slot)
at_leaf {t = leaf a} p h = (a, refl, p.rep.root)
at_leaf {t = node l r} p h = absurd (omega (arith, p.rep.root, (slots_left (leaves r) p.rep.slots).low (last_leaf l)))

-- ---- the price of an offer kept in its slot

pub price_kept : {w : Words} {a : Item} (q : ℤ) → Held w a → T (load_in_range q) → price_in w a.slot q ≡ price_at a.offer q
unfolding price_in
price_kept {w} {a} q k h =
    rw (
      k.base,
      k.rate,
      bounded_in _ _ q h,
      bounded_in _ _ a.offer.base (base_of_lem a.offer k.ranged),
      bounded_in _ _ a.offer.rate (rate_of_lem a.offer k.ranged),
    )
