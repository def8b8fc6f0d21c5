-- Raise in words: both envelopes are searched and cut, the rests, the node and its bridge are written, and the kept parts put together.
use Rattle.std.specs.Prelude.{◌≡◌, refl, true, false, [], ◌∷◌, ◌++◌, ℕ, ◌+◌, ◌≤◌, pos}
use Rattle.std.proofs.Common.{sym, ◌∙◌, ap, subst, arith}
use Rattle.std.proofs.Math.Option.{some}
use Rattle.trees.specs.Tree.{Tree, node, height, leaves, first, last, Avl}
use Rattle.trees.specs.Leaves.{last_leaf}
use Rattle.trees.specs.Height.{height_full}
use Rattle.meeting.specs.Machine.{Result, meet}
use Rattle.meeting.specs.Meets.{FacingTrees}
use Rattle.dynamic.specs.OfferTree.{Held, held_shape, raise}
use Rattle.dynamic.specs.Valid.{Whole}
use Rattle.table.specs.Fields.{bridge_left_field, bridge_right_field, most_levels, offer_tree, piece_tree, rate_field}
use Rattle.table.specs.Words.{Words}
use Rattle.table.specs.Layout.{cap, cap_most, cell, cset}
use Rattle.table.specs.Items.{Item, at, slots_most}
use Rattle.table.specs.Rep.{height_at, ref_of, node_on, Within, within_trans, within_cset}
use Rattle.table.specs.Nodes.{rep_height}
use Rattle.nodes.specs.Joining.{Joined}
use Rattle.pieces.specs.Pieces.{items, rate_of, Standing, SeamAt, Seamed}
use Rattle.cuts.specs.PieceCuts.{is_in_front, Parted, CutBehind, CutBefore}
use Rattle.form.specs.Stored.{Touched}
use Rattle.levels.specs.Levels.{Counted, HandIn, MadeIn, Siblings, RaisedIn}
use Rattle.levels.specs.declared.Held.{Held as InHand}
use Rattle.levels.specs.declared.Made.{Made as Outcome}
use Rattle.form.specs.Frames.{tied_same, whole_standing, pieces_offers, pieces_tree, slots_within}
use Rattle.levels.specs.RaisingModel.{Raising, raising, left_cut, right_cut}
use Rattle.levels.specs.RaisingRests.{RestSet, rest_within}
use Rattle.levels.specs.RaisingCuts.{AfterCuts, after_cuts}
use Rattle.levels.specs.RaisingWires.{Unwired, AfterWires, after_wires}
use Rattle.levels.specs.RaisingCat.{touched, held_raised}

-- ---- the search

-- two envelopes that face each other
pub record Faces (w : Words) (x y : ℕ) (tl tr : Tree Item) : Type 0 where
  pub left : Standing w x (some tl)
  pub right : Standing w y (some tr)
  pub left_low : height tl ≤ most_levels
  pub right_low : height tr ≤ most_levels
  pub facing : FacingTrees items tl tr (first tl)

-- the nodes where the machine ends, and its steps
pub record Ends (u v steps : ℕ) (m : Result Item) : Type 0 where
  pub at_left : u ≡ ref_of m.u.tree
  pub at_right : v ≡ ref_of m.v.tree
  pub counted : steps ≡ m.steps

pub record MetIn (w : Words) (x y u v steps : ℕ) : Type 0 where
  pub met : (tl tr : Tree Item) → Faces w x y tl tr → Ends u v steps (meet items tl tr)

-- ---- numbers

pub standing_low : {w : Words} {x : ℕ} {t : Tree Item} → Standing w x (some t) → height t ≤ most_levels
standing_low {w} {t} st = height_full st.balanced (omega (arith, slots_most (cap w) (leaves t) st.slots, cap_most w))

standing_height : {w : Words} {x : ℕ} {t : Tree Item} → Standing w x (some t) → height_at w piece_tree x ≡ height t
standing_height st = rep_height (record { kind = omega arith; root = st.root; slots = st.slots; tied = st.pieces.0 })

-- ---- the calls in a row

-- the words after each write, and what was found and cut between
record Calls (gap : ℕ) (x y : InHand) (w w' : Words) (m : Outcome) : Type 0 where
  u : ℕ
  v : ℕ
  lf : ℕ
  lb : ℕ
  rf : ℕ
  rb : ℕ
  w₁ : Words
  w₂ : Words
  w₃ : Words
  w₄ : Words
  w₅ : Words
  w₆ : Words
  w₇ : Words
  met : MetIn w x.envelope y.envelope u v m.counts.steps
  once : m.counts.searches ≡ 1
  heights : m.counts.heights ≡ height_at w piece_tree x.envelope + height_at w piece_tree y.envelope
  cut_left : CutBehind u gap x.envelope w w₁ lf lb
  cut_right : CutBefore v y.envelope w₁ w₂ rf rb
  rest_left : RestSet x.tree lb w₂ w₃
  rest_right : RestSet y.tree rf w₃ w₄
  above : Joined (node_on false) offer_tree false gap x.tree y.tree w₄ w₅ m.held.tree
  bridge_left : w₆ ≡ cset w₅ bridge_left_field gap (pos u)
  bridge_right : w₇ ≡ cset w₆ bridge_right_field gap (pos v)
  cat : Seamed lf rb u v w₇ w' m.held.envelope

-- what they make of two subtrees in hand
record Raises (w w' : Words) (m : Outcome) (l r : Held Item) : Type 0 where
  held : MadeIn w' m (raise items l r)
  touched : Touched (leaves (held_shape l) ++ leaves (held_shape r)) w w'

module _
    {gap : ℕ} {x y : InHand} {m : Outcome} {w w' : Words} {l r : Held Item}
    (calls : Calls gap x y w w' m) (sib : Siblings w gap x y l r) (R : Raising l r (raise items l r)) where
  raises : Raises w w' m l r
  raises =
      record {
        held =
            record {
              held = subst (HandIn w' m.held) (sym R.held) (held_raised sib cuts wires seam calls.cat at_u at_v
                  (subst (Whole items) R.held R.whole));
              counted = subst (λ log. Counted log m.counts) (sym R.logged) counted;
            };
        touched = touched sib cuts wires seam calls.cat;
      }
    where
      front : Standing w x.envelope (some R.front)
      front = subst (Standing w x.envelope) R.left_is (whole_standing sib.left)

      back : Standing w y.envelope (some R.back)
      back = subst (Standing w y.envelope) R.right_is (whole_standing sib.right)

      ends : Ends calls.u calls.v m.counts.steps (meet items R.front R.back)
      ends = calls.met.met R.front R.back (record {
        left = front;
        right = back;
        left_low = standing_low front;
        right_low = standing_low back;
        facing = R.facing;
      })

      at_u : calls.u ≡ R.u.slot
      at_u = ends.at_left ∙ ap ref_of R.met.at_left

      at_v : calls.v ≡ R.v.slot
      at_v = ends.at_right ∙ ap ref_of R.met.at_right

      counted : Counted (record { front = R.front; back = R.back } ∷ []) m.counts
      counted =
          record {
            searches = calls.once;
            steps = omega (arith, ends.counted, R.met.steps, standing_low front, standing_low back);
            heights = omega (arith, calls.heights, standing_height front, standing_height back, standing_low front, standing_low back);
          }

      -- the rates of u, of the seam and of v
      by_u : cell w rate_field calls.u ≡ rate_of R.u
      by_u = ap (cell w rate_field) at_u ∙ (front.holds.held R.u_piece).rate

      -- the seam's line is the last of the left tree
      by_gap : cell w rate_field gap ≡ rate_of (last (held_shape l))
      by_gap = ap (cell w rate_field) sib.seam ∙ (sib.left.kept.held (last_leaf (held_shape l))).rate

      left_parted : Parted (is_in_front false (rate_of R.u)) l.whole w calls.w₁ calls.lf calls.lb
      left_parted =
          subst (λ z. Parted (is_in_front false z) l.whole w calls.w₁ calls.lf calls.lb) by_u
          (calls.cut_left.parted l.whole (whole_standing sib.left) (λ a m. rw by_gap (R.low a m)))

      by_v : cell calls.w₁ rate_field calls.v ≡ rate_of R.v
      by_v =
          ap (cell calls.w₁ rate_field) at_v
          ∙ (pieces_offers left_parted.only (leaves R.back)).cells rate_field R.v.slot (omega arith) (at R.v_piece refl)
          ∙ (back.holds.held R.v_piece).rate

      right_parted : Standing calls.w₁ y.envelope r.whole →
          Parted (is_in_front true (rate_of R.v)) r.whole calls.w₁ calls.w₂ calls.rf calls.rb
      right_parted st =
          subst (λ z. Parted (is_in_front true z) r.whole calls.w₁ calls.w₂ calls.rf calls.rb) by_v
          (calls.cut_right.parted r.whole st R.high)

      cuts : AfterCuts w calls.w₂ l r (left_cut R.u l) (right_cut R.v r) calls.lf calls.lb calls.rf calls.rb
      cuts = after_cuts sib calls.cut_left.within left_parted calls.cut_right.within right_parted

      -- the kept parts end at u and begin at v
      seam : SeamAt calls.u calls.v (left_cut R.u l).front (right_cut R.v r).back
      seam =
          record {
            left_end = λ t e. at_u ∙ ap (λ (i : Item). i.slot) (sym (R.u_last t e));
            right_end = λ t e. at_v ∙ ap (λ (i : Item). i.slot) (sym (R.v_first t e));
          }

      given : Unwired calls.w₂ gap x.tree y.tree l.tree r.tree
      given =
          record {
            left_root = sib.left.root;
            right_root = sib.right.root;
            left_tied = tied_same sib.left.tied (pieces_tree cuts.only _);
            right_tied = tied_same sib.right.tied (pieces_tree cuts.only _);
            seam = sib.seam;
            slots = slots_within cuts.within sib.slots;
          }

      wires : AfterWires l.tree r.tree calls.w₂ calls.w₇ m.held.tree calls.lb calls.rf calls.u calls.v
      wires =
          after_wires given calls.rest_left calls.rest_right calls.above calls.bridge_left calls.bridge_right (
            omega (arith, at_u, front.slots.high R.u_piece, cap_most w),
            omega (arith, at_v, back.slots.high R.v_piece, cap_most w),
          )

-- The search is made, the heights are read, both envelopes cut, the rests, the node and its bridge written, and the kept parts put together.
pub raised :
    {gap u v lf lb rf rb : ℕ} {x y : InHand} {m : Outcome} {w w₁ w₂ w₃ w₄ w₅ w₆ w₇ w₈ : Words} →
    m.counts.searches ≡ 1 →
    MetIn w x.envelope y.envelope u v m.counts.steps →
    m.counts.heights ≡ height_at w piece_tree x.envelope + height_at w piece_tree y.envelope →
    CutBehind u gap x.envelope w w₁ lf lb →
    CutBefore v y.envelope w₁ w₂ rf rb →
    RestSet x.tree lb w₂ w₃ →
    RestSet y.tree rf w₃ w₄ →
    Joined (node_on false) offer_tree false gap x.tree y.tree w₄ w₅ m.held.tree →
    w₆ ≡ cset w₅ bridge_left_field gap (pos u) →
    w₇ ≡ cset w₆ bridge_right_field gap (pos v) →
    Seamed lf rb u v w₇ w₈ m.held.envelope →
    RaisedIn gap x y w w₈ m
raised {gap} {u} {v} {lf} {lb} {rf} {rb} {x} {y} {m} {w} {w₁} {w₂} {w₃} {w₄} {w₅} {w₆} {w₇} {w₈} once met heights cut_left cut_right rest_left rest_right
    above eu ev cat =
    record {
      within =
          within_trans cut_left.within
          (within_trans cut_right.within
          (within_trans (rest_within rest_left)
          (within_trans (rest_within rest_right)
          (within_trans above.within
          (within_trans (subst (Within w₅) (sym eu) (within_cset w₅ bridge_left_field gap (pos u)))
          (within_trans (subst (Within w₆) (sym ev) (within_cset w₆ bridge_right_field gap (pos v))) cat.within))))));
      made = λ l r sib avl. (all l r sib avl).held;
      touched = λ l r sib avl. (all l r sib avl).touched;
    }
  where
    all : (l r : Held Item) → Siblings w gap x y l r → Avl (node (held_shape l) (held_shape r)) → Raises w w₈ m l r
    all l r sib avl =
        raises
        (record {
          u = u;
          v = v;
          lf = lf;
          lb = lb;
          rf = rf;
          rb = rb;
          w₁ = w₁;
          w₂ = w₂;
          w₃ = w₃;
          w₄ = w₄;
          w₅ = w₅;
          w₆ = w₆;
          w₇ = w₇;
          met = met;
          once = once;
          heights = heights;
          cut_left = cut_left;
          cut_right = cut_right;
          rest_left = rest_left;
          rest_right = rest_right;
          above = above;
          bridge_left = eu;
          bridge_right = ev;
          cat = cat;
        })
        sib
        (raising sib.left.right sib.right.right sib.ordered avl)
