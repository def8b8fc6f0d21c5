-- A piece tree over a stretch of slots: the ways through the code that looks for one.
use Rattle.std.specs.Prelude.{◌≡◌, refl, Bool, true, false, Option, None, Some, IsSome, ℕ, ◌+◌, ◌-◌, ◌≤◌, ◌<◌, eqb, length, get_or}
use Rattle.std.proofs.Common.{sym, ◌∙◌, ap, subst, arith, eqb-true, eq-eqb}
use mathlib.Core.List.{List, [], ◌∷◌, Memᴰ}
use Rattle.std.proofs.Math.Option.{none, some}
use Rattle.lists.specs.Bools.{never}
use Rattle.trees.specs.Tree.{Tree, leaf, node, leaves}
use Rattle.trees.specs.Operations.{Part, part_leaves}
use Rattle.trees.specs.Balanced.{AvlP}
use Rattle.trees.specs.Height.{height_full}
use Rattle.table.specs.Fields.{most_levels, piece_tree}
use Rattle.table.specs.Words.{Words}
use Rattle.table.specs.Layout.{cap}
use Rattle.table.specs.Items.{Item}
use Rattle.table.specs.Threads.{Next, Threaded}
use Rattle.table.specs.PartTrees.{part_ref}
use Rattle.pieces.specs.Pieces.{PartIn}
use Rattle.check_trees.specs.Scratch.{second_half}
use Rattle.check_trees.specs.declared.Filled.{Filled}
use Rattle.check_trees.specs.Stretches.{stretch, span, span_mem, chain_span, span_chain, stretch_same, stretch_agrees, span_same, span_length, span_none}
use Rattle.check_trees.specs.Deciding.{Decides, decides_no, Every, Agree}
use Rattle.check_trees.specs.Loops.{RangedHere, NextHere}
use Rattle.check_trees.specs.Laid.{item_at, items_at, items_length, slots_of, items_back, slots_back, Placed, placed_at, AllPlaced, Laid, laid_unique}
use Rattle.check_trees.specs.Fills.{Fills}
use Rattle.check_trees.specs.FillWalks.{written_length}
use Rattle.check_bridges.specs.Gaps.{InRange}
use Rattle.check_bridges.specs.StoredBridges.{Threads}

-- ---- slots with offers

-- a slot of the part, with an offer in range
pub record Known (w : Words) (s : ℕ) : Type 0 where
  pub low : 1 ≤ s
  pub high : s ≤ cap w
  pub in_range : InRange w s

abbrev pub AllKnown : Words → List ℕ → Type 0
AllKnown w ss = (s : ℕ) → Memᴰ s ss → Known w s

pub known_placed : {w : Words} (ss : List ℕ) → AllKnown w ss → AllPlaced w (items_at w ss)
known_placed [] h a m = elim m [ ]
known_placed (s ∷ ss) h a (Memᴰ.head e) = subst (Placed _) (sym e) (placed_at (h s (Memᴰ.head refl)).low (h s (Memᴰ.head refl)).high)
known_placed (s ∷ ss) h a (Memᴰ.tail m) = known_placed ss (λ t i. h t (Memᴰ.tail i)) a m

pub known_ranged : {w : Words} {xs : List ℕ} {a b : ℕ} → AllKnown w (span xs a b) → Every (RangedHere w xs) a b
known_ranged {w} {xs} {a} {b} h = record { at = λ k l m. record { ranged = (h (get_or xs k 0) (span_mem xs a b k l m)).in_range.ranged } }

-- ---- the thread along a stretch

module _ {w : Words} {xs : List ℕ} where
  pub threaded_span : (a b : ℕ) → Every (NextHere w xs) a (b - 1) → Threaded w (items_at w (span xs a b))
  threaded_span a b e = chain_span (Next w) (item_at w) xs a b (λ k l m. (e.at k l m).next)

  pub span_threaded : (a b : ℕ) → Threaded w (items_at w (span xs a b)) → Every (NextHere w xs) a (b - 1)
  span_threaded a b c = record { at = λ k l m. record { next = span_chain (Next w) (item_at w) xs a b c k l m } }

-- ---- a piece tree over slots

-- node q of the pieces is the root of a balanced tree over these slots, threaded; 0 where there are none
pub record PieceTree (w : Words) (q : ℕ) (ss : List ℕ) : Type 0 where
  pub whole : Part Item
  pub root : q ≡ part_ref whole
  pub over : part_leaves whole ≡ items_at w ss
  pub pieces : PartIn w whole
  pub balanced : AvlP whole

-- the tree, where there is one
pub record OverSlots (w : Words) (q : ℕ) (ss : List ℕ) : Type 0 where
  pub tree : Tree Item
  pub laid : Laid w piece_tree q tree
  pub over : leaves tree ≡ items_at w ss
  pub threaded : Threaded w (leaves tree)

module _ {w : Words} {q : ℕ} {ss : List ℕ} where
  pub over_tree : AllKnown w ss → (q ≡ 0 → ⊥) → PieceTree w q ss → OverSlots w q ss
  over_tree known d p = go p.whole p.root p.over p.pieces p.balanced
    where
      go : (h : Part Item) → q ≡ part_ref h → part_leaves h ≡ items_at w ss → PartIn w h → AvlP h → OverSlots w q ss
      go none e o i b = absurd (d e)
      go (some t) e o i b =
          record {
            tree = t;
            laid = record { root = e; placed = λ a m. known_placed ss known a (subst (Memᴰ a) o m); tied = i.0; balanced = b };
            over = o;
            threaded = i.1;
          }

  pub tree_over : OverSlots w q ss → PieceTree w q ss
  tree_over t = record { whole = some t.tree; root = t.laid.root; over = t.over; pieces = (t.laid.tied, t.threaded); balanced = t.laid.balanced }

  over_length : (t : OverSlots w q ss) → length (leaves t.tree) ≡ length ss
  over_length t = ap length t.over ∙ items_length w ss

  over_slots : (t : OverSlots w q ss) → slots_of (leaves t.tree) ≡ ss
  over_slots t = ap slots_of t.over ∙ slots_back w ss

-- ---- the ways through the code

pub record Matches (w : Words) (q : ℕ) (xs xs' : List ℕ) (from to : ℕ) (r : Bool) : Type 0 where
  pub long : length xs' ≡ length xs
  pub same : (i : ℕ) → i < second_half → get_or xs' i 0 ≡ get_or xs i 0
  pub told : AllKnown w (span xs from to) → Decides r (PieceTree w q (span xs from to))

module _ {w : Words} {q from to : ℕ} {xs : List ℕ} (e : q ≡ 0) where
  pub matches_none : from ≤ to → Matches w q xs xs from to (eqb from to)
  matches_none l =
      record {
        long = refl;
        same = λ i h. refl;
        told = λ known. record {
          sound = λ t.
              let d = eqb-true from to t in
              record { whole = none; root = e; over = ap (items_at w) (sym (span_none xs from to (omega arith))); pieces = tt; balanced = tt };
          complete = λ p. eq-eqb from to (go known p.whole p.root p.over);
        };
      }
    where
      go : AllKnown w (span xs from to) → (h : Part Item) → q ≡ part_ref h → part_leaves h ≡ items_at w (span xs from to) → from ≡ to
      go known none r o = let n = ap slots_of o ∙ slots_back w (span xs from to) in omega (arith, ap length n, span_length xs from to)
      go known (some (leaf a)) r o = absurd (omega (arith, (known_placed (span xs from to) known a (subst (Memᴰ a) o (Memᴰ.head refl))).low))
      go known (some (node t u)) r o = absurd (omega arith)

module _ {w : Words} {q from to : ℕ} {xs xs' : List ℕ} (d : q ≡ 0 → ⊥) (l : from ≤ to) (h : to ≤ second_half) where
  module _ {r : Option Filled} (F : Fills w piece_tree q most_levels xs xs' second_half r) where
    -- the stretch is as it was
    stretch_still : span xs' from to ≡ span xs from to
    stretch_still = span_same xs' xs from to (λ i a b. F.same i (omega arith))

    filled : OverSlots w q (span xs from to) → IsSome r
    filled t =
        F.complete t.tree t.laid (height_full t.laid.balanced (omega (arith, over_length t, span_length xs from to)))
        (omega (arith, over_length t, span_length xs from to))

    matches_no : (OverSlots w q (span xs from to) → ⊥) → Matches w q xs xs' from to false
    matches_no n = record { long = F.long; same = λ i a. F.same i a; told = λ known. decides_no (λ p. n (over_tree known d p)) }

  pub matches_not_filled : Fills w piece_tree q most_levels xs xs' second_half None → Matches w q xs xs' from to false
  matches_not_filled F = matches_no F (λ t. never (filled F t) refl)

  module _ {f : Filled} (F : Fills w piece_tree q most_levels xs xs' second_half (Some f)) where
    -- it is the tree that was written
    written_is : (t : OverSlots w q (span xs from to)) → F.sound.written.tree ≡ t.tree
    written_is t = laid_unique F.sound.written.tree t.tree F.sound.written.laid t.laid

    next_is : (t : OverSlots w q (span xs from to)) → f.next ≡ second_half + (to - from)
    next_is t = omega (
      arith,
      F.sound.inside,
      written_length F.sound.written,
      ap (λ (s : Tree Item). length (leaves s)) (written_is t),
      over_length t,
      span_length xs from to,
    )

    pub matches_not_long : (f.next ≡ second_half + (to - from) → ⊥) → Matches w q xs xs' from to false
    matches_not_long n = matches_no F (λ t. n (next_is t))

    module _ (e : f.next ≡ second_half + (to - from)) where
      gap : f.next - second_half ≡ to - from
      gap = omega arith

      pub matches_differ : {r : Bool} → Decides r (Agree xs' from second_half (to - from)) → r ≡ false → Matches w q xs xs' from to false
      matches_differ D n = matches_no F
          (λ t. never (D.complete (record { at = λ k a b. stretch_agrees xs' xs' from second_half (to - from) (both t) k b })) n)
        where
          both : OverSlots w q (span xs from to) → stretch xs' from (to - from) ≡ stretch xs' second_half (to - from)
          both t =
              stretch_still F ∙ sym (over_slots t) ∙ ap (λ (s : Tree Item). slots_of (leaves s)) (sym (written_is t)) ∙ sym F.sound.written.slots
              ∙ ap (stretch xs' second_half) gap

      pub matches_rest : {r t : Bool} → Decides r (Agree xs' from second_half (to - from)) → r ≡ true → Threads w xs' from to t → Matches w q xs xs' from to t
      matches_rest {r} {t} D n T =
          record {
            long = F.long;
            same = λ i a. F.same i a;
            told =
                λ known. record { sound = found known; complete = λ p. (threads known).complete (links known (over_tree known d p)) };
          }
        where
          threads : AllKnown w (span xs from to) → Decides t (Every (NextHere w xs') from (to - 1))
          threads known = T.told (known_ranged (subst (AllKnown w) (sym (stretch_still F)) known))

          over : leaves F.sound.written.tree ≡ items_at w (span xs from to)
          over =
              sym (items_back (leaves F.sound.written.tree) F.sound.written.laid.placed)
              ∙ ap (items_at w) (sym F.sound.written.slots ∙ ap (stretch xs' second_half) gap ∙ sym
              (stretch_same xs' xs' from second_half (to - from) (λ k b. (D.sound n).at k (omega arith) b)) ∙ stretch_still F)

          found : AllKnown w (span xs from to) → t ≡ true → PieceTree w q (span xs from to)
          found known u =
              tree_over
              (record {
                tree = F.sound.written.tree;
                laid = F.sound.written.laid;
                over = over;
                threaded = subst (Threaded w) (ap (items_at w) (stretch_still F) ∙ sym over) (threaded_span from to ((threads known).sound u));
              })

          links : AllKnown w (span xs from to) → OverSlots w q (span xs from to) → Every (NextHere w xs') from (to - 1)
          links known o = span_threaded from to (subst (Threaded w) (o.over ∙ ap (items_at w) (sym (stretch_still F))) o.threaded)
