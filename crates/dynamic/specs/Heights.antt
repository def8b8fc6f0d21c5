-- Every tree of a whole subtree is balanced, so at most 2 × log_up(n) high over its n leaves, and over all the subtree's lines.
use Rattle.std.specs.Prelude.{◌*◌, ◌≤◌, length}
use Rattle.std.proofs.Common.{arith, ⊎_elim}
use mathlib.Core.List.Memᴰ
use mathlib.Core.List.{List, ◌∷◌, Memᴰ}
use Rattle.lists.specs.Places.{all_cons}
use Rattle.integers.specs.Log.{log_up, log_up_mono}
use Rattle.envelopes.specs.PseudoLines.{Figure}
use Rattle.trees.specs.Tree.{height, leaves}
use Rattle.trees.specs.Operations.{Part, part_leaves, part_height}
use Rattle.trees.specs.Balanced.{AvlP}
use Rattle.trees.specs.Height.{log_height, log_height_p}
use Rattle.dynamic.specs.OfferTree.{OfferTree, Held, held_shape}
use Rattle.dynamic.specs.Valid.{Valid, valid_single, valid_fork, Whole}
use Rattle.dynamic.specs.Rearranged.{rests, piece_trees, lines_length, rearranged_length, trees_rearranged}

module _ (S : Figure) where
  rests_balanced : {t : OfferTree S.Line} {es : List S.Line} → Valid S t es → (p : Part S.Line) → Memᴰ p (rests t) → AvlP p
  rests_balanced valid_single p m = absurd (Memᴰ.not-nil m)
  rests_balanced (valid_fork {l} {r} {ql} {qr} up_to from e vl vr al ar E) p m =
      ⊎_elim (all_cons {P = AvlP} al (rests_balanced vl) p) (all_cons {P = AvlP} ar (rests_balanced vr) p) (Memᴰ.append_cases (ql ∷ rests l) m)

  module _ {h : Held S.Line} (w : Whole S h) where
    pub trees_balanced : (p : Part S.Line) → Memᴰ p (piece_trees h) → AvlP p
    trees_balanced = all_cons {P = AvlP} w.balanced_whole (rests_balanced w.valid)

    pub offers_height : height (held_shape h) ≤ 2 * log_up (length (leaves (held_shape h)))
    offers_height = log_height w.balanced

    pub whole_height : part_height h.whole ≤ 2 * log_up (length (part_leaves h.whole))
    whole_height = log_height_p h.whole w.balanced_whole

    pub piece_height : (p : Part S.Line) → Memᴰ p (piece_trees h) → part_height p ≤ 2 * log_up (length (part_leaves p))
    piece_height p m = log_height_p p (trees_balanced p m)

    -- no piece tree has more leaves than there are lines
    pub piece_lines_lem : (p : Part S.Line) → Memᴰ p (piece_trees h) → length (part_leaves p) ≤ length (leaves (held_shape h))
    piece_lines_lem p m = omega (arith, lines_length m, rearranged_length (trees_rearranged S w))

    pub piece_height_lines : (p : Part S.Line) → Memᴰ p (piece_trees h) → part_height p ≤ 2 * log_up (length (leaves (held_shape h)))
    piece_height_lines p m = omega (arith, piece_height p m, log_up_mono (piece_lines_lem p m))
