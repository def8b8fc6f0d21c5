-- Theorems on specs/UpdateSteps.
use Rattle.std.specs.Prelude.{suc, ◌*◌, ◌+◌, ◌≤◌, ◌≡◌, refl, length}
use Rattle.std.proofs.Common.{sym, ap, ◌∙◌}
use mathlib.Core.List.Memᴰ
use mathlib.Core.List.{[], ◌∷◌, ◌++◌, append-nil, Memᴰ}
use Rattle.std.proofs.Math.Option.{Option, none, some}
use Rattle.lists.specs.Places.{all_cons}
use Rattle.envelopes.specs.PseudoLines.{Figure, PseudoLines}
use Rattle.envelopes.specs.Envelope.{Ordered}
use Rattle.trees.specs.Tree.{leaves}
use Rattle.dynamic.specs.OfferTree.{Held, held_shape, Made}
use Rattle.dynamic.specs.Updates.{Removed, rebalance, insert, remove}
use Rattle.dynamic.specs.Valid.{Whole, WholeBook, book_lines, placed, instead, Fits}
use Rattle.dynamic.specs.Work.{inners}
use Rattle.dynamic.specs.Floors.{floor_old}
use Rattle.dynamic.specs.Forests.{row_of, lines_row, lines_of, inners_of}
use Rattle.dynamic.specs.Kept.{Kept, held_height, started}
use Rattle.dynamic.specs.Placed.{New, placed_ordered, instead_ordered}
use Rattle.dynamic.specs.Rebalanced.{Balances}
use Rattle.dynamic.proofs.Rebalanced.{rebalanced}
use Rattle.dynamic.proofs.Inserted.{inserted}
use Rattle.dynamic.specs.Removed.{Shorter}
use Rattle.dynamic.proofs.Removed.{removed}
use Rattle.dynamic.proofs.Updated.{opened}
use Rattle.dynamic.specs.UpdateSteps.{Gains, Loses, Rebalances, whole_row}

module _ (S : Figure) (L : PseudoLines S) where
  pub rebalance_whole :
      {l r : Held S.Line} →
      Whole S l →
      Whole S r →
      Ordered S (leaves (held_shape l) ++ leaves (held_shape r)) →
      held_height l ≤ suc (suc (held_height r)) →
      held_height r ≤ suc (suc (held_height l)) →
      Rebalances S l r (rebalance S l r)
  rebalance_whole {l} {r} wl wr o hl hr =
      let e : lines_of (l ∷ r ∷ []) ≡ leaves (held_shape l) ++ leaves (held_shape r) = ap (λ ls. leaves (held_shape l) ++ ls) (append-nil (leaves (held_shape r))) in
      let k : Kept S (inners_of (l ∷ r ∷ [])) (lines_of (l ∷ r ∷ [])) (l ∷ r ∷ []) [] =
      started S (rw e o) refl (all_cons {P = Whole S} wl (all_cons {P = Whole S} wr (λ h m. absurd (Memᴰ.not-nil m))))
      (floor_old S (inners_of (l ∷ r ∷ [])) _ (λ n m. m))
      in
      let J = rebalanced S L (inners_of (l ∷ r ∷ [])) (lines_of (l ∷ r ∷ [])) [] [] l r k hl hr in
      record {
        whole = J.kept.whole _ (Memᴰ.head refl);
        lines = sym (append-nil _) ∙ J.kept.lines ∙ e;
        heights = J.heights;
        few = J.few;
      }

  module _ (s : S.Line) {h : Held S.Line} (w : Whole S h) where
    pub insert_whole : New S s (leaves (held_shape h)) → Gains S s h (insert S s h.tree h.whole)
    insert_whole n =
        let G = inserted S L (inners (held_shape h)) (placed S s (leaves (held_shape h))) (placed_ordered S L s (leaves (held_shape h)) w.ordered n) s
        h.tree h.whole [] [] (leaves (held_shape h)) (opened S h w) (append-nil _) in
        record { whole = G.kept.whole _ (Memᴰ.head refl); lines = sym (append-nil _) ∙ G.kept.lines; low = G.low; high = G.high; few = G.few }

    pub remove_whole :
        (by : Option S.Line) → Fits S s by → Memᴰ s (leaves (held_shape h)) → Loses S s by h (remove S s by h.tree h.whole)
    remove_whole by f m =
        let G = removed S L (inners (held_shape h)) (instead S s by (leaves (held_shape h))) (instead_ordered S L s by w.ordered m f) s by
        h.tree h.whole [] [] (leaves (held_shape h)) (opened S h w) m (append-nil _) in
        let rest = (remove S s by h.tree h.whole).rest in
        let k = rw (append-nil (row_of rest)) at G.kept in
        record { whole = whole_row S rest k.whole; lines = sym (lines_row rest) ∙ k.lines; heights = G.heights; few = G.few }
