-- Theorems on specs/Kept.
use Rattle.std.specs.Prelude.{ℕ, suc, ◌+◌, ◌*◌, ◌≤◌, max, ◌≡◌, refl, length}
use Rattle.std.proofs.Common.{arith, sym, ap, subst, ◌∙◌, ⊎_elim, length-append}
use mathlib.Core.List.Memᴰ
use mathlib.Core.List.{List, [], ◌∷◌, ◌++◌, Memᴰ}
use Rattle.envelopes.specs.PseudoLines.{Figure, PseudoLines}
use Rattle.envelopes.specs.Envelope.{Ordered}
use Rattle.envelopes.specs.EnvelopeLaws.{ordered_sublist}
use Rattle.trees.specs.Tree.{node, height, Avl, avl_node}
use Rattle.meeting.specs.Machine.{Side, left, right, meet}
use Rattle.dynamic.specs.OfferTree.{OfferTree, single, fork, shape, Held, held_shape, Pair, Made, Lowered, outer, inner, lower, raise, raise_on}
use Rattle.dynamic.specs.Valid.{Whole}
use Rattle.dynamic.specs.Work.{Inner, inners, Searched, Floor, steps_of, heights_of}
use Rattle.dynamic.proofs.Lower.{whole_lower}
use Rattle.dynamic.proofs.Raise.{raised_shape, raised_steps, whole_raise}
use Rattle.dynamic.specs.Floors.{Added, added_between, added_last, floor_drop, floor_add}
use Rattle.dynamic.specs.Forests.{lines_of, inners_of, single_inners, added_all, added_in, Merged, MergedOn, left_in, right_in, whole_in}
use Rattle.dynamic.specs.Forests.{merge_all, part_all, merged_sub, merged_lines, merged_inners}
use Rattle.dynamic.specs.Kept.{Above, Kept, Parted, Raises, above_node, above_turned, few_more, held_height, lowered, searched_more}

module _ (S : Figure) (L : PseudoLines S) where
  pub part : (h : Held S.Line) → Whole S h → 1 ≤ held_height h → Parted S h (lower S h)
  part h w high = go h.tree refl
    where
      go : (t : OfferTree S.Line) → h.tree ≡ t → Parted S h (lower S h)
      go (single a) e = absurd (omega (arith, ap (λ t. height (shape t)) e))
      go (fork u v l ql qr r) e =
          let p = whole_lower S L w e in
          let forked : held_shape h ≡ node (held_shape (lower S h).front) (held_shape (lower S h).back) = rw (p.front_tree, p.back_tree) (ap shape e) in
          record { front = p.front; back = p.back; forked = forked; level = above_node forked (subst Avl forked w.balanced) }

  module _ {before : List (Inner S.Line)} {live : List S.Line} where
    raised :
        {l r : Held S.Line} {row rest : List (Held S.Line)} {log : List (Pair S.Line)} →
        Kept S before live row log →
        Merged l r (raise S l r).held row rest →
        held_height l ≤ suc (held_height r) →
        held_height r ≤ suc (held_height l) →
        Raises S before live rest log l r (raise S l r)
    raised {l} {r} {row} {rest} {log} k m hl hr =
        let wl = k.whole l (left_in m) in
        let wr = k.whole r (right_in m) in
        let avl = avl_node wl.balanced wr.balanced hl hr in
        let R = whole_raise S L wl wr (ordered_sublist S (merged_sub m) (rw k.lines k.ordered)) avl in
        let forked = raised_shape S R in
        record {
          kept =
              record {
                ordered = k.ordered;
                lines = merged_lines forked m ∙ k.lines;
                whole = merge_all m R.whole k.whole;
                searched = rw R.logged (searched_more S log k.searched (R.searched live (rw (← k.lines) (merged_sub m))));
                few_steps = rw R.logged (few_more S log R.pair k.few_steps (raised_steps S R));
                floor = rw R.logged (floor_add S before (merged_inners forked m) (added_last log) R.holds k.floor);
              };
          level = above_node forked avl;
          one = ap length R.logged;
        }

    -- ---- on either side
    pub lowered_on :
        (side : Side) (h : Held S.Line) {row rest : List (Held S.Line)} {log : List (Pair S.Line)} →
        Kept S before live row log →
        1 ≤ held_height h →
        MergedOn side (outer side (lower S h)) (inner side (lower S h)) h rest row →
        Kept S before live rest log × Above (outer side (lower S h)) (inner side (lower S h)) h
    lowered_on left h k high m = let p = part h (k.whole h (whole_in m)) high in ((lowered S L) k p m, p.level)
    lowered_on right h k high m = let p = part h (k.whole h (whole_in m)) high in ((lowered S L) k p m, above_turned p.level)

    pub raised_on :
        (side : Side) {o i : Held S.Line} {row rest : List (Held S.Line)} {log : List (Pair S.Line)} →
        Kept S before live row log →
        MergedOn side o i (raise_on S side o i).held row rest →
        held_height o ≤ suc (held_height i) →
        held_height i ≤ suc (held_height o) →
        Raises S before live rest log o i (raise_on S side o i)
    raised_on left k m ho hi = raised k m ho hi
    raised_on right k m ho hi = let R = raised k m hi ho in record { kept = R.kept; level = above_turned R.level; one = R.one }
