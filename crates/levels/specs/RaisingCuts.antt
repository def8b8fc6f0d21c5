-- Raise in words, first part: both children's whole envelopes are cut.
use Rattle.std.specs.Prelude.{◌≡◌, Bool, ◌++◌, ℕ}
use Rattle.std.proofs.Common.{sym, subst}
use Rattle.trees.specs.Tree.{leaves}
use Rattle.trees.specs.Operations.{Part, Cut, part_leaves, split_p}
use Rattle.trees.specs.Split.{cut_leaves}
use Rattle.trees.proofs.Split.{split_p_leaves}
use Rattle.dynamic.specs.OfferTree.{Held, held_shape}
use Rattle.table.specs.Words.{Words}
use Rattle.table.specs.Layout.{cap}
use Rattle.table.specs.Items.{Item, In, Slots}
use Rattle.table.specs.Rep.{Within, within_trans}
use Rattle.pieces.specs.Pieces.{PieceField, PiecesOnly, Standing}
use Rattle.cuts.specs.PieceCuts.{Parted}
use Rattle.levels.specs.Levels.{Siblings}
use Rattle.levels.specs.declared.Held.{Held as InHand}
use Rattle.form.specs.Frames.{OfferField, Same, same_inside, Inside, Disjoint, disjoint_across, whole_inside, whole_standing, pieces_touched}
use Rattle.form.specs.Frames.{standing_same, standing_still, pieces_trans, pieces_more}
use Rattle.form.specs.Disjoint.{inside_left, inside_right, disjoint_both, disjoint_turned}

-- ---- one cut

-- both parts of p stand, in two sets of its slots
pub record Halved (w : Words) (a b : ℕ) (p : Part Item) (c : Cut Item) : Type 0 where
  pub front : Standing w a c.front
  pub back : Standing w b c.back
  pub front_inside : Inside (part_leaves c.front) (part_leaves p)
  pub back_inside : Inside (part_leaves c.back) (part_leaves p)
  pub apart : Disjoint (part_leaves c.front) (part_leaves c.back)

pub halved : {test : Item → Bool} {e a b : ℕ} {w w₁ : Words} {p : Part Item} → Parted test p w w₁ a b → Standing w e p → Halved w₁ a b p (split_p test p)
halved {test} {w} {p} cut st =
    record {
      front = cut.in_front;
      back = cut.behind;
      front_inside = λ s i. subst (In s) all (inside_left (part_leaves c.back) s i);
      back_inside = λ s i. subst (In s) all (inside_right (part_leaves c.front) s i);
      apart = disjoint_across (part_leaves c.front) (subst (Slots (cap w)) (sym all) st.slots);
    }
  where
    c : Cut Item
    c = split_p test p

    all : cut_leaves c ≡ part_leaves p
    all = split_p_leaves test p

pub halved_same : {a b : ℕ} {w w' : Words} {p : Part Item} {c : Cut Item} → Within w w' → Halved w a b p c → Same OfferField (part_leaves p) w w' →
    Same PieceField (part_leaves p) w w' → Halved w' a b p c
halved_same within h offers pieces =
    record {
      front = standing_same within h.front (same_inside h.front_inside offers) (same_inside h.front_inside pieces);
      back = standing_same within h.back (same_inside h.back_inside offers) (same_inside h.back_inside pieces);
      front_inside = h.front_inside;
      back_inside = h.back_inside;
      apart = h.apart;
    }

-- ---- both

pub wholes_apart : {w : Words} {gap : ℕ} {x y : InHand} {l r : Held Item} → Siblings w gap x y l r → Disjoint (part_leaves l.whole) (part_leaves r.whole)
wholes_apart {l} s = disjoint_both (whole_inside s.left) (whole_inside s.right) (disjoint_across (leaves (held_shape l)) s.slots)

-- the words after both cuts, c of the left envelope and d of the right one
pub record AfterCuts (w w' : Words) (l r : Held Item) (c d : Cut Item) (lf lb rf rb : ℕ) : Type 0 where
  pub within : Within w w'
  pub left : Halved w' lf lb l.whole c
  pub right : Halved w' rf rb r.whole d
  pub only : PiecesOnly (part_leaves l.whole ++ part_leaves r.whole) w w'

pub after_cuts :
    {w w₁ w₂ : Words} {gap lf lb rf rb : ℕ} {x y : InHand} {test test' : Item → Bool} {l r : Held Item} →
    Siblings w gap x y l r →
    Within w w₁ →
    Parted test l.whole w w₁ lf lb →
    Within w₁ w₂ →
    (Standing w₁ y.envelope r.whole → Parted test' r.whole w₁ w₂ rf rb) →
    AfterCuts w w₂ l r (split_p test l.whole) (split_p test' r.whole) lf lb rf rb
after_cuts {w} {w₁} {w₂} {lf} {lb} {rf} {rb} {y = y} {test} {test'} {l} {r} s wc c wd d =
    record {
      within = within_trans wc wd;
      left = record {
        front = still near.front near.front_inside;
        back = still near.back near.back_inside;
        front_inside = near.front_inside;
        back_inside = near.back_inside;
        apart = near.apart;
      };
      right = halved cut far;
      only = pieces_trans (pieces_more (inside_left (part_leaves r.whole)) c.only) (pieces_more (inside_right (part_leaves l.whole)) cut.only);
    }
  where
    near : Halved w₁ lf lb l.whole (split_p test l.whole)
    near = halved c (whole_standing s.left)

    -- the right envelope after the left one was cut
    far : Standing w₁ y.envelope r.whole
    far = standing_still wc (whole_standing s.right) (pieces_touched c.only) (disjoint_turned (wholes_apart s))

    cut : Parted test' r.whole w₁ w₂ rf rb
    cut = d far

    still : {x : ℕ} {p : Part Item} → Standing w₁ x p → Inside (part_leaves p) (part_leaves l.whole) → Standing w₂ x p
    still st i = standing_still wd st (pieces_touched cut.only) (disjoint_both i (λ n j. j) (wholes_apart s))
