-- Theorems on specs/Inserted.
use Rattle.std.specs.Prelude.{ℕ, suc, ◌+◌, ◌*◌, ◌≤◌, max, ◌≡◌, length}
use Rattle.std.proofs.Common.{arith, ◌∙◌, length-append}
use Rattle.std.proofs.Math.Decide.{dec_le}
use Rattle.std.proofs.Math.Path.{refl}
use mathlib.Core.List.Memᴰ
use mathlib.Core.List.{List, [], ◌∷◌, ◌++◌}
use Rattle.std.proofs.Math.Seq.{append_snoc}
use Rattle.lists.specs.Bools.{cond_both, cond_yes, cond_no}
use Rattle.envelopes.specs.PseudoLines.{Figure, PseudoLines}
use Rattle.envelopes.specs.Envelope.{Ordered, ordered_nil, ordered_cons}
use Rattle.envelopes.specs.EnvelopeLaws.{ordered_left}
use Rattle.trees.specs.Tree.{height, leaves, last, avl_leaf}
use Rattle.trees.specs.Operations.{Part}
use Rattle.trees.specs.Leaves.{last_leaf}
use Rattle.meeting.specs.Machine.{left}
use Rattle.dynamic.specs.OfferTree.{OfferTree, single, fork, shape, Held, hold, alone, Made, made, and_then, lower, lower_tree, raise}
use Rattle.dynamic.specs.Updates.{rebalance, insert}
use Rattle.dynamic.specs.Valid.{Whole, valid_single, placed}
use Rattle.dynamic.specs.Work.{Inner}
use Rattle.dynamic.specs.Floors.{added_here, added_there, added_between, added_behind}
use Rattle.dynamic.specs.Forests.{lines_of, lines_append, lines_left, lines_right, Merged, merged_here, merged_behind}
use Rattle.dynamic.specs.Kept.{Kept, held_height, Above, above_turned, line_joins}
use Rattle.dynamic.proofs.Kept.{lowered_on, raised_on}
use Rattle.dynamic.specs.Rebalanced.{Balances, balances_turned}
use Rattle.dynamic.proofs.Rebalanced.{rebalanced}
use Rattle.dynamic.specs.Placed.{placed_left, placed_right, none_behind}
use Rattle.dynamic.specs.Inserted.{Grown, Inserts, alone_whole, climbs, regrown}

module _ (S : Figure) (L : PseudoLines S) {before : List (Inner S.Line)} {live : List S.Line} where
  grown_left :
      {h f g : Held S.Line} {m : Made S.Line} (xs ys : List (Held S.Line)) →
      Above f g h →
      Grown S before live (xs ++ m.held ∷ g ∷ ys) (held_height f) m →
      Grown S before live (xs ++ (rebalance S m.held g).held ∷ ys) (held_height h) (and_then m (λ l. rebalance S l g))
  grown_left {h} {f} {g} {m} xs ys a G =
      let C = climbs a.higher a.left_level a.right_level G.low G.high in
      let J = rebalanced S L before live xs ys m.held g G.kept C.near C.far in
      (regrown S L) m (rebalance S m.held g) C G J.kept J.heights J.few

  grown_right :
      {h f g : Held S.Line} {m : Made S.Line} (xs ys : List (Held S.Line)) →
      Above g f h →
      Grown S before live (xs ++ g ∷ m.held ∷ ys) (held_height f) m →
      Grown S before live (xs ++ (rebalance S g m.held).held ∷ ys) (held_height h) (and_then m (λ r. rebalance S g r))
  grown_right {h} {f} {g} {m} xs ys b G =
      let a = above_turned b in
      let C = climbs a.higher a.left_level a.right_level G.low G.high in
      let J = rebalanced S L before live xs ys g m.held G.kept C.far C.near in
      (regrown S L) m (rebalance S g m.held) C G J.kept (balances_turned J.heights) J.few

-- ---- the insertion
module _ (S : Figure) (L : PseudoLines S) (before : List (Inner S.Line)) (live : List S.Line) (o : Ordered S live) (s : S.Line) where
  -- two single lines side by side
  raised_pair :
      (xs ys : List (Held S.Line)) (l r : Held S.Line) → held_height l ≡ 0 → held_height r ≡ 0 → Kept S before live (xs ++ l ∷ r ∷ ys) [] →
      Grown S before live (xs ++ (raise S l r).held ∷ ys) 0 (raise S l r)
  raised_pair xs ys l r p q k =
      let m : Merged l r (raise S l r).held (xs ++ l ∷ r ∷ ys) (xs ++ (raise S l r).held ∷ ys) = merged_behind xs merged_here in
      let R = raised_on S L left k m (omega arith) (omega arith) in
      record { kept = R.kept; low = omega arith; high = omega arith; few = omega arith }

  inserted_single : (a : S.Line) → (Inserts S L before live o s) (single a)
  unfolding insert
  inserted_single a e xs ys old k d =
      cond_both (λ m. Grown S before live (xs ++ m.held ∷ ys) 0 m) (S.before s a)
      (λ t. raised_pair xs ys (alone s) (hold (single a) e) refl refl
      (line_joins S k (added_between xs (hold (single a) e ∷ ys)) (alone_whole S s) refl o
      (lines_append xs (alone s ∷ hold (single a) e ∷ ys) ∙ rw (cond_yes (S.before s a) (s ∷ a ∷ []) (a ∷ s ∷ []) t) at d)))
      (λ t. raised_pair xs ys (hold (single a) e) (alone s) refl refl
      (line_joins S k (added_behind xs (added_there (added_here refl))) (alone_whole S s) refl o
      (lines_append xs (hold (single a) e ∷ alone s ∷ ys) ∙ rw (cond_no (S.before s a) (s ∷ a ∷ []) (a ∷ s ∷ []) t) at d)))

  inserted_fork : (u v : S.Line) (l r : OfferTree S.Line) (ql qr : Part S.Line) → (Inserts S L before live o s) l → (Inserts S L before live o s) r → (Inserts S L before live o s) (fork u v l ql qr r)
  unfolding insert lower_tree
  inserted_fork u v l r ql qr on_left on_right e xs ys old k d =
      let h = hold (fork u v l ql qr r) e in
      let c = lower S h in
      let w = k.whole h (Memᴰ.append_right xs (Memᴰ.head refl)) in
      let (k₁, a) = lowered_on S L left h k (omega arith) (merged_behind xs merged_here) in
      let k₂ : Kept S before old ((xs ++ c.front ∷ []) ++ c.back ∷ ys) [] = rw append_snoc k₁ in
      cond_both (λ m. Grown S before live (xs ++ m.held ∷ ys) (held_height h) m) (S.before s (last (shape l)))
      (λ t. grown_left S L xs ys a
      (on_left c.front.whole xs (c.back ∷ ys) old k₁
      (lines_left (lines_of xs) (placed S s (leaves (shape l))) (leaves (shape r)) (lines_of ys) d
      (placed_left S s (leaves (shape l)) (leaves (shape r)) (last_leaf (shape l)) t))))
      (λ t. grown_right S L xs ys a
      (rw append_snoc at
      (on_right c.back.whole (xs ++ c.front ∷ []) ys old k₂
      (lines_right xs c.front (placed S s (leaves (shape r))) (lines_of ys) d
      (placed_right S s (leaves (shape l)) (leaves (shape r))
      (none_behind S L s (shape l) (ordered_left S (leaves (shape l)) (leaves (shape r)) w.ordered) t))))))

  pub inserted : (t : OfferTree S.Line) → (Inserts S L before live o s) t
  inserted (single a) = inserted_single a
  inserted (fork u v l ql qr r) = inserted_fork u v l r ql qr (inserted l) (inserted r)
