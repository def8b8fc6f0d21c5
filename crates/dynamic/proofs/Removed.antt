-- Theorems on specs/Removed.
use Rattle.std.specs.Prelude.{ℕ, suc, ◌+◌, ◌*◌, ◌≤◌, max, ◌≡◌, not, T, length}
use native.Mathlib.Omega.{arith}
use Rattle.std.proofs.Math.Decide.{dec_le}
use Rattle.std.proofs.Math.Path.{refl, ap}
use Rattle.std.proofs.Common.{sym, ◌∙◌, ⊎_elim, T_not, length-append}
use mathlib.Core.List.Memᴰ
use mathlib.Core.List.{List, [], ◌∷◌, ◌++◌, Memᴰ}
use Rattle.std.proofs.Math.Option.{Option, none, some}
use Rattle.std.proofs.Math.Seq.{append_snoc}
use Rattle.lists.specs.Bools.{cond_both, or_left, or_right}
use Rattle.envelopes.specs.PseudoLines.{Figure, PseudoLines}
use Rattle.envelopes.specs.Envelope.{Ordered}
use Rattle.envelopes.specs.EnvelopeLaws.{ordered_left, ordered_apart}
use Rattle.trees.specs.Tree.{height, leaves, last}
use Rattle.trees.specs.Operations.{Part}
use Rattle.trees.specs.Leaves.{last_leaf}
use Rattle.meeting.specs.Machine.{left}
use Rattle.dynamic.specs.OfferTree.{OfferTree, single, fork, shape, Held, hold, alone, Pair, Made, lower, lower_tree}
use Rattle.dynamic.specs.Updates.{Removed, rebalance, beside_left, beside_right, standing, remove}
use Rattle.dynamic.specs.Valid.{stand_in, instead}
use Rattle.dynamic.specs.Work.{Inner}
use Rattle.dynamic.specs.Floors.{added_between}
use Rattle.dynamic.specs.Forests.{row_of, lines_of, lines_append, lines_left, lines_right, merged_here, merged_behind}
use Rattle.dynamic.specs.Kept.{Kept, held_height, Above, above_turned, line_leaves, line_changes}
use Rattle.dynamic.proofs.Kept.{lowered_on}
use Rattle.dynamic.specs.Rebalanced.{Balances, balances_turned}
use Rattle.dynamic.proofs.Rebalanced.{rebalanced}
use Rattle.dynamic.specs.Inserted.{alone_whole}
use Rattle.dynamic.specs.Placed.{instead_append, instead_all, instead_one, all_before}
use Rattle.dynamic.specs.Removed.{Removes, Shrunk, falls, in_left, in_right, left_stays, removed_single, reshrunk, right_stays}

module _ (S : Figure) (L : PseudoLines S) {before : List (Inner S.Line)} {live : List S.Line} where
  shrunk_left :
      {h f g : Held S.Line} (xs ys : List (Held S.Line)) (rest : Option (Held S.Line)) (log : List (Pair S.Line)) →
      Above f g h →
      Shrunk S before live (xs ++ (row_of rest ++ g ∷ ys)) (held_height f) (record { rest = rest; log = log }) →
      Shrunk S before live (xs ++ (row_of (beside_right S (record { rest = rest; log = log }) g).rest ++ ys)) (held_height h)
      (beside_right S (record { rest = rest; log = log }) g)
  shrunk_left xs ys none log a G = record { kept = G.kept; heights = omega arith; few = omega arith }
  shrunk_left {g = g} xs ys (some l) log a G =
      let C = falls a.higher a.left_level a.right_level G.heights.0 G.heights.1 in
      let J = rebalanced S L before live xs ys l g G.kept C.near C.far in
      (reshrunk S L) l log (rebalance S l g) C G.few J.kept J.heights J.few

  shrunk_right :
      {h f g : Held S.Line} (xs ys : List (Held S.Line)) (rest : Option (Held S.Line)) (log : List (Pair S.Line)) →
      Above g f h →
      Shrunk S before live (xs ++ g ∷ (row_of rest ++ ys)) (held_height f) (record { rest = rest; log = log }) →
      Shrunk S before live (xs ++ (row_of (beside_left S g (record { rest = rest; log = log })).rest ++ ys)) (held_height h)
      (beside_left S g (record { rest = rest; log = log }))
  shrunk_right xs ys none log a G = record { kept = G.kept; heights = omega arith; few = omega arith }
  shrunk_right {g = g} xs ys (some r) log b G =
      let a = above_turned b in
      let C = falls a.higher a.left_level a.right_level G.heights.0 G.heights.1 in
      let J = rebalanced S L before live xs ys g r G.kept C.far C.near in
      (reshrunk S L) r log (rebalance S g r) C G.few J.kept (balances_turned J.heights) J.few

-- ---- the removal
module _ (S : Figure) (L : PseudoLines S) (before : List (Inner S.Line)) (live : List S.Line) (o : Ordered S live) (s : S.Line)
    (by : Option S.Line) where
  removed_fork : (u v : S.Line) (l r : OfferTree S.Line) (ql qr : Part S.Line) → (Removes S L before live o s by) l → (Removes S L before live o s by) r → (Removes S L before live o s by) (fork u v l ql qr r)
  unfolding remove lower_tree
  removed_fork u v l r ql qr on_left on_right e xs ys old k m d =
      let h = hold (fork u v l ql qr r) e in
      let c = lower S h in
      let w = k.whole h (Memᴰ.append_right xs (Memᴰ.head refl)) in
      let (k₁, a) = lowered_on S L left h k (omega arith) (merged_behind xs merged_here) in
      let k₂ : Kept S before old ((xs ++ c.front ∷ []) ++ c.back ∷ ys) [] = rw append_snoc k₁ in
      let ml = remove S s by l c.front.whole in
      let mr = remove S s by r c.back.whole in
      cond_both (λ n. Shrunk S before live (xs ++ (row_of n.rest ++ ys)) (held_height h) n) (S.before (last (shape l)) s)
      (λ t. shrunk_right S L xs ys mr.rest mr.log a
      (rw append_snoc at
      (on_right c.back.whole (xs ++ c.front ∷ []) ys old k₂ ((in_right S L before live o s by) l r w.ordered m t)
      (lines_right xs c.front (instead S s by (leaves (shape r))) (lines_of ys) d ((left_stays S L before live o s by) l r w.ordered m t)))))
      (λ t. shrunk_left S L xs ys ml.rest ml.log a
      (on_left c.front.whole xs (c.back ∷ ys) old k₁ ((in_left S L before live o s by) l r w.ordered m t)
      (lines_left (lines_of xs) (instead S s by (leaves (shape l))) (leaves (shape r)) (lines_of ys) d ((right_stays S L before live o s by) l r w.ordered m t))))

  pub removed : (t : OfferTree S.Line) → (Removes S L before live o s by) t
  removed (single a) = (removed_single S L before live o s by) a
  removed (fork u v l ql qr r) = removed_fork u v l r ql qr (removed l) (removed r)
