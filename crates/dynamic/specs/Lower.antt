-- A valid tree's envelope is its lines' lower envelope, and the children of a whole subtree are whole again once it is lowered.
use Rattle.std.specs.Prelude.{◌≡◌, refl, ◌⊎◌, T}
use Rattle.std.proofs.Common.{sym, subst, inl, inr, T_not}
use Rattle.std.proofs.Math.Bool.{not}
use mathlib.Core.List.Memᴰ
use mathlib.Core.List.{List, [], ◌∷◌, ◌++◌, Memᴰ}
use Rattle.std.proofs.Math.Dec.{not_T}
use Rattle.lists.specs.Places.{sublist_mem}
use Rattle.envelopes.specs.PseudoLines.{Figure, PseudoLines}
use Rattle.envelopes.specs.Envelope.{Ordered, Env}
use Rattle.envelopes.specs.EnvelopeLaws.{ordered_left, ordered_right, ordered_apart, not_both, ordered_pairs}
use Rattle.envelopes.specs.Small.{env_one}
use Rattle.trees.specs.Tree.{Tree, node, leaves, last, Avl, avl_node}
use Rattle.trees.specs.Operations.{Part, Cut, part_leaves}
use Rattle.trees.specs.Leaves.{last_leaf}
use Rattle.trees.proofs.Leaves.{leaves_join_p}
use Rattle.trees.specs.Balanced.{AvlP}
use Rattle.trees.proofs.Balanced.{near_join_p}
use Rattle.trees.specs.Split.{Halves}
use Rattle.trees.proofs.Split.{split_p_halves, split_p_low}
use Rattle.trees.specs.Order.{up_to_last}
use Rattle.dynamic.specs.OfferTree.{OfferTree, fork, shape, Held, hold, Lowered, cut_behind, lower_tree, lower}
use Rattle.dynamic.specs.Valid.{Valid, valid_single, valid_fork, Whole}

module _ (S : Figure) (L : PseudoLines S) where
  pub valid_env : {t : OfferTree S.Line} {es : List S.Line} → Valid S t es → Env S (leaves (shape t)) es
  valid_env (valid_single {a}) = env_one S L a
  valid_env (valid_fork up_to from e vl vr al ar E) = E

  pub not_before : (a b : S.Line) → (b ≡ a) ⊎ T (S.before b a) → T (not (S.before a b))
  not_before a b (inl e) = not_T (S.before a b) (λ t. L.before_irrefl a (subst (λ (c : S.Line). T (S.before a c)) e t))
  not_before a b (inr p) = not_T (S.before a b) (λ t. not_both S L a b t p)

-- The two children of a subtree, each with its whole envelope.
pub record LowersTo (S : Figure) (l r : OfferTree S.Line) (c : Lowered S.Line) : Type 0 where
  pub front_tree : c.front.tree ≡ l
  pub back_tree : c.back.tree ≡ r
  pub front : Whole S c.front
  pub back : Whole S c.back

module _ (S : Figure) (L : PseudoLines S) where
  -- the cut behind the left child's last line parts its pieces from the right child's
  pub cut_halves :
      (ls : Tree S.Line) (rs : List S.Line) (e : Part S.Line) (xs ys : List S.Line) →
      Ordered S (leaves ls ++ rs) →
      part_leaves e ≡ xs ++ ys →
      ((a : S.Line) → Memᴰ a xs → Memᴰ a (leaves ls)) →
      ((a : S.Line) → Memᴰ a ys → Memᴰ a rs) →
      Halves (cut_behind S (last ls) e) xs ys
  cut_halves ls rs e xs ys o p f g =
      split_p_halves (λ x. not (S.before (last ls) x)) e xs ys p
      (λ a m. not_before S L (last ls) a (up_to_last ls (ordered_pairs (ordered_left S (leaves ls) rs o)) (f a m)))
      (λ a m. not_T (not (S.before (last ls) a)) (λ t. T_not (S.before (last ls) a) t (ordered_apart S (leaves ls) rs o (last ls) a (last_leaf ls) (g a m))))
