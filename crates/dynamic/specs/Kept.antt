-- What an update keeps true of the row of subtrees in hand and of the log so far, when it lowers one of them and when it raises two neighbours.
use Rattle.std.specs.Prelude.{ℕ, suc, ◌+◌, ◌*◌, ◌≤◌, max, ◌≡◌, refl, length}
use Rattle.std.proofs.Common.{arith, sym, ap, subst, ◌∙◌, ⊎_elim, length-append}
use mathlib.Core.List.Memᴰ
use mathlib.Core.List.{List, [], ◌∷◌, ◌++◌, Memᴰ}
use Rattle.envelopes.specs.PseudoLines.{Figure, PseudoLines}
use Rattle.envelopes.specs.Envelope.{Ordered}
use Rattle.envelopes.specs.EnvelopeLaws.{ordered_sublist}
use Rattle.trees.specs.Tree.{node, height, Avl, avl_node}
use Rattle.meeting.specs.Machine.{Side, left, right, meet}
use Rattle.dynamic.specs.OfferTree.{OfferTree, single, fork, shape, Held, held_shape, Pair, Made, Lowered, outer, inner, lower, raise, raise_on}
use Rattle.dynamic.specs.Valid.{Whole}
use Rattle.dynamic.specs.Work.{Inner, inners, Searched, Floor, steps_of, heights_of}
use Rattle.dynamic.specs.Floors.{Added, added_between, added_last, floor_drop, floor_add}
use Rattle.dynamic.specs.Forests.{lines_of, inners_of, single_inners, added_all, added_in, Merged, MergedOn, left_in, right_in, whole_in}
use Rattle.dynamic.specs.Forests.{merge_all, part_all, merged_sub, merged_lines, merged_inners}

abbrev pub held_height : {A : Type 0} → Held A → ℕ
held_height h = height (held_shape h)

-- `before` are the inner nodes before the update, `live` the lines after it.
pub record Kept (S : Figure) (before : List (Inner S.Line)) (live : List S.Line) (row : List (Held S.Line)) (log : List (Pair S.Line)) :
    Type 0 where
  pub ordered : Ordered S live
  pub lines : lines_of row ≡ live
  pub whole : (h : Held S.Line) → Memᴰ h row → Whole S h
  pub searched : (p : Pair S.Line) → Memᴰ p log → Searched S live p
  pub few_steps : steps_of S log ≤ 3 * heights_of log + length log
  pub floor : Floor S before (inners_of row) log

-- h is a fork above the other two, which are level within one
pub record Above {A : Type 0} (l r h : Held A) : Type 0 where
  pub higher : held_height h ≡ suc (max (held_height l) (held_height r))
  pub left_level : held_height l ≤ suc (held_height r)
  pub right_level : held_height r ≤ suc (held_height l)

pub above_turned : {A : Type 0} {l r h : Held A} → Above l r h → Above r l h
above_turned a = record { higher = a.higher ∙ omega arith; left_level = a.right_level; right_level = a.left_level }

-- ---- counts of a longer log

pub steps_append : (S : Figure) (xs ys : List (Pair S.Line)) → steps_of S (xs ++ ys) ≡ steps_of S xs + steps_of S ys
steps_append S [] ys = omega arith
steps_append S (x ∷ xs) ys = omega (arith, steps_append S xs ys)

pub heights_append : {A : Type 0} (xs ys : List (Pair A)) → heights_of (xs ++ ys) ≡ heights_of xs + heights_of ys
heights_append [] ys = omega arith
heights_append (x ∷ xs) ys = omega (arith, heights_append xs ys)

pub few_more :
    (S : Figure) (log : List (Pair S.Line)) (p : Pair S.Line) →
    steps_of S log ≤ 3 * heights_of log + length log →
    (meet S p.front p.back).steps ≤ 3 * (height p.front + height p.back) + 1 →
    steps_of S (log ++ p ∷ []) ≤ 3 * heights_of (log ++ p ∷ []) + length (log ++ p ∷ [])
few_more S log p h k = rw (steps_append S log (p ∷ []), heights_append log (p ∷ []), length-append log (p ∷ [])) (omega arith)

pub searched_more :
    (S : Figure) {live : List S.Line} (log : List (Pair S.Line)) {p : Pair S.Line} →
    ((q : Pair S.Line) → Memᴰ q log → Searched S live q) →
    Searched S live p →
    (q : Pair S.Line) →
    Memᴰ q (log ++ p ∷ []) →
    Searched S live q
searched_more S {live} log f s q m = ⊎_elim (f q) (λ i. subst (Searched S live) (sym (Memᴰ.eq_of_singleton i)) s) (Memᴰ.append_cases log m)

-- ---- before the first search

-- a row with an empty log, and other lines that are to stay
pub started : (S : Figure) {before : List (Inner S.Line)} {live : List S.Line} {row : List (Held S.Line)} → Ordered S live → lines_of row ≡ live →
    ((h : Held S.Line) → Memᴰ h row → Whole S h) → Floor S before (inners_of row) [] → Kept S before live row []
started S o e w f = record { ordered = o; lines = e; whole = w; searched = λ p m. absurd (Memᴰ.not-nil m); few_steps = omega arith; floor = f }

-- a single line joins the row, leaves it, or makes room for another
module _ (S : Figure) {before : List (Inner S.Line)} {old live : List S.Line} {h : Held S.Line} {row more : List (Held S.Line)} where
  pub line_joins : Kept S before old row [] → Added h row more → Whole S h → inners (held_shape h) ≡ [] → Ordered S live → lines_of more ≡ live →
      Kept S before live more []
  line_joins k a w e o l = started S o l (added_all a w k.whole) (rw (single_inners e a) k.floor)

  pub line_leaves : Kept S before old more [] → Added h row more → inners (held_shape h) ≡ [] → Ordered S live → lines_of row ≡ live → Kept S before live row []
  line_leaves k a e o l = started S o l (λ x i. k.whole x (added_in a i)) (rw (← single_inners e a) k.floor)

pub line_changes :
    (S : Figure) {before : List (Inner S.Line)} {old live : List S.Line} (g h : Held S.Line) (xs ys : List (Held S.Line)) →
    Kept S before old (xs ++ g ∷ ys) [] →
    inners (held_shape g) ≡ [] →
    Whole S h →
    inners (held_shape h) ≡ [] →
    Ordered S live →
    lines_of (xs ++ h ∷ ys) ≡ live →
    Kept S before live (xs ++ h ∷ ys) []
line_changes S {before} g h xs ys k e w d o l =
    started S o l (added_all (added_between xs ys) w (λ x i. k.whole x (added_in (added_between xs {a = g} ys) i)))
    (subst (λ ns. Floor S before ns []) same k.floor)
  where
    same : inners_of (xs ++ g ∷ ys) ≡ inners_of (xs ++ h ∷ ys)
    same = single_inners {h = g} e (added_between xs ys) ∙ sym (single_inners {h = h} d (added_between xs ys))

-- ---- what is made

-- A subtree that is no single line: its children, whole, and level within one.
pub record Parted (S : Figure) (h : Held S.Line) (c : Lowered S.Line) : Type 0 where
  pub front : Whole S c.front
  pub back : Whole S c.back
  pub forked : held_shape h ≡ node (held_shape c.front) (held_shape c.back)
  pub level : Above c.front c.back h

-- Two neighbours made one, by one search.
pub record Raises (S : Figure) (before : List (Inner S.Line)) (live : List S.Line) (row : List (Held S.Line)) (log : List (Pair S.Line))
    (l r : Held S.Line) (m : Made S.Line) : Type 0 where
  pub kept : Kept S before live row (log ++ m.log)
  pub level : Above l r m.held
  pub one : length m.log ≡ 1

pub above_node : {A : Type 0} {l r h : Held A} → held_shape h ≡ node (held_shape l) (held_shape r) → Avl (node (held_shape l) (held_shape r)) → Above l r h
above_node e (avl_node pl pr hl hr) = record { higher = ap height e; left_level = hl; right_level = hr }

module _ (S : Figure) (L : PseudoLines S) where
  module _ {before : List (Inner S.Line)} {live : List S.Line} where
    pub lowered :
        {h : Held S.Line} {row rest : List (Held S.Line)} {log : List (Pair S.Line)} →
        Kept S before live row log →
        Parted S h (lower S h) →
        Merged (lower S h).front (lower S h).back h rest row →
        Kept S before live rest log
    lowered k p m =
        record {
          ordered = k.ordered;
          lines = sym (merged_lines p.forked m) ∙ k.lines;
          whole = part_all m p.front p.back k.whole;
          searched = k.searched;
          few_steps = k.few_steps;
          floor = floor_drop S before (merged_inners p.forked m) k.floor;
        }
    -- ---- on either side
