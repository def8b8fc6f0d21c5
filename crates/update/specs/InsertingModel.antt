-- One level of an insertion in the model, seen from the side that the line goes to: which of the two ways it takes, and the row that it leaves.
use Rattle.std.specs.Prelude.{◌≡◌, ◌≤◌, Bool, true, false, not, T, ◌⊎◌, List, [], ◌∷◌, ◌++◌, refl}
use Rattle.std.proofs.Common.{sym, ◌∙◌, ap, subst, inl, inr, ⊎_elim, arith}
use mathlib.Core.List.Memᴰ
use mathlib.Core.List.Permᴰ
use mathlib.Core.List.{Memᴰ, Permᴰ}
use Rattle.lists.specs.Bools.{cond_both, failed, passed}
use Rattle.envelopes.specs.PseudoLines.{Figure, PseudoLines}
use Rattle.envelopes.specs.Envelope.{Ordered}
use Rattle.envelopes.specs.EnvelopeLaws.{not_both, ordered_pairs}
use Rattle.trees.specs.Tree.{Tree, height, leaves, last}
use Rattle.trees.specs.Leaves.{last_leaf}
use Rattle.trees.specs.Operations.{Part}
use Rattle.trees.specs.Order.{up_to_last}
use Rattle.dynamic.specs.OfferTree.{OfferTree, single, fork, shape, Held, hold, alone, held_shape, and_then, outer, inner, lower, lower_tree, raise_on}
use Rattle.dynamic.specs.Updates.{insert}
use Rattle.dynamic.specs.Valid.{placed}
use Rattle.dynamic.specs.Rearranged.{rearranged_mem}
use Rattle.dynamic.specs.Kept.{held_height}
use Rattle.dynamic.specs.Placed.{placed_left, placed_right, none_behind}
use Rattle.table.specs.Items.{Item}
use Rattle.table.specs.Rep.{node_on, seam}
use Rattle.pieces.specs.Pieces.{items, item_laws_lem}
use Rattle.update.specs.Neighbours.{side_of, ordered_other}
use Rattle.update.specs.Rebalancing.{rebalance_on}

-- ---- a line placed

module _ (S : Figure) (s : S.Line) where
  pub placed_rearranged : (ls : List S.Line) → Permᴰ (placed S s ls) (s ∷ ls)
  placed_rearranged [] = Permᴰ.refl (s ∷ [])
  placed_rearranged (p ∷ ps) =
      let ih = placed_rearranged ps in
      cond_both (λ ls. Permᴰ ls (s ∷ p ∷ ps)) (S.before s p) (λ t. Permᴰ.refl (s ∷ p ∷ ps))
      (λ t. Permᴰ.trans (Permᴰ.cons refl ih) (Permᴰ.swap refl refl))

-- in front of the last line of a tree: that one stays the last
pub placed_last :
    (S : Figure) (L : PseudoLines S) (s : S.Line) (t t' : Tree S.Line) →
    Ordered S (leaves t) →
    Ordered S (leaves t') →
    leaves t' ≡ placed S s (leaves t) →
    T (S.before s (last t)) →
    last t' ≡ last t
placed_last S L s t t' o o' e b = ⊎_elim sym (λ after. absurd (beyond after (Memᴰ.cases_cons old))) (up_to_last t' (ordered_pairs o') there)
  where
    there : Memᴰ (last t) (leaves t')
    there = subst (Memᴰ (last t)) (sym e) (rearranged_mem (Permᴰ.symm (placed_rearranged S s (leaves t))) (Memᴰ.tail (last_leaf t)))

    old : Memᴰ (last t') (s ∷ leaves t)
    old = rearranged_mem (placed_rearranged S s (leaves t)) (subst (Memᴰ (last t')) e (last_leaf t'))

    beyond : T (S.before (last t) (last t')) → (last t' ≡ s) ⊎ Memᴰ (last t') (leaves t) → ⊥
    beyond after (inl d) = not_both S L (last t) s (subst (λ c. T (S.before (last t) c)) d after) b
    beyond after (inr m) = ⊎_elim (λ d. L.before_irrefl (last t) (subst (λ c. T (S.before (last t) c)) d after))
        (λ u. not_both S L (last t) (last t') after u) (up_to_last t (ordered_pairs o) m)

-- ---- which way

-- beside a single line: the new one on the side that it belongs to
pub insert_single :
    (side : Bool) (a b : Item) (e : Part Item) →
    items.before a b ≡ not side →
    insert items a (single b) e ≡ raise_on items (side_of side) (alone a) (hold (single b) e)
unfolding insert
insert_single false a b e d = rw d
insert_single true a b e d = rw d

module _ (a : Item) where
  insert_fork :
      (side : Bool) (u v : Item) (l r : OfferTree Item) (ql qr p : Part Item) →
      items.before a (last (shape l)) ≡ not side →
      insert items a (fork u v l ql qr r) p
      ≡ and_then (insert items a (outer (side_of side) (lower items (hold (fork u v l ql qr r) p))).tree
      (outer (side_of side) (lower items (hold (fork u v l ql qr r) p))).whole)
      (λ o. rebalance_on side o (inner (side_of side) (lower items (hold (fork u v l ql qr r) p))))
  unfolding insert lower_tree
  insert_fork false u v l r ql qr p d = rw d
  insert_fork true u v l r ql qr p d = rw d

-- from the side that the line goes to: into the outer child, which is rebalanced with the inner one
pub insert_on :
    (side : Bool) (a : Item) (h : Held Item) →
    1 ≤ held_height h →
    items.before a (seam side (held_shape (outer (side_of side) (lower items h))) (held_shape (inner (side_of side) (lower items h)))) ≡ not side →
    insert items a h.tree h.whole
    ≡ and_then (insert items a (outer (side_of side) (lower items h)).tree (outer (side_of side) (lower items h)).whole)
    (λ o. rebalance_on side o (inner (side_of side) (lower items h)))
unfolding lower_tree
insert_on side a h high d = go side h.tree h.whole high d
  where
    go :
        (side : Bool) (t : OfferTree Item) (p : Part Item) →
        1 ≤ height (shape t) →
        items.before a (seam side (held_shape (outer (side_of side) (lower items (hold t p)))) (held_shape (inner (side_of side) (lower items (hold t p))))) ≡
        not side →
        insert items a t p
        ≡ and_then (insert items a (outer (side_of side) (lower items (hold t p))).tree (outer (side_of side) (lower items (hold t p))).whole)
        (λ o. rebalance_on side o (inner (side_of side) (lower items (hold t p))))
    go side (single b) p high d = absurd (omega arith)
    go false (fork u v l ql qr r) p high d = insert_fork a false u v l r ql qr p d
    go true (fork u v l ql qr r) p high d = insert_fork a true u v l r ql qr p d

-- ---- the row that it leaves: G is O with the line placed

module _ (a : Item) (O I G : Tree Item) (lines : leaves G ≡ placed items a (leaves O)) where
  pub grown_row :
      (side : Bool) →
      Ordered items (leaves (node_on side O I)) →
      items.before a (seam side O I) ≡ not side →
      leaves (node_on side G I) ≡ placed items a (leaves (node_on side O I))
  grown_row false o d = ap (λ xs. xs ++ leaves I) lines ∙ sym (placed_left items a (leaves O) (leaves I) (last_leaf O) (passed d))
  grown_row true o d = ap (λ xs. leaves I ++ xs) lines ∙ sym
      (placed_right items a (leaves I) (leaves O) (none_behind items item_laws_lem a I (ordered_other O I true o) (failed d)))

  pub grown_seam : (side : Bool) → Ordered items (leaves O) → Ordered items (leaves G) → items.before a (seam side O I) ≡ not side →
      seam side G I ≡ seam side O I
  grown_seam false o o' d = placed_last items item_laws_lem a O G o o' lines (passed d)
  grown_seam true o o' d = refl
