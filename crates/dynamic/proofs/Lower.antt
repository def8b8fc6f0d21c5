-- Theorems on specs/Lower.
use Rattle.std.specs.Prelude.{◌≡◌, refl, ◌⊎◌, T}
use Rattle.std.proofs.Common.{sym, subst, inl, inr, T_not}
use Rattle.std.proofs.Math.Bool.{not}
use mathlib.Core.List.Memᴰ
use mathlib.Core.List.{List, [], ◌∷◌, ◌++◌, Memᴰ}
use Rattle.std.proofs.Math.Dec.{not_T}
use Rattle.lists.specs.Places.{sublist_mem}
use Rattle.envelopes.specs.PseudoLines.{Figure, PseudoLines}
use Rattle.envelopes.specs.Envelope.{Ordered, Env}
use Rattle.envelopes.specs.EnvelopeLaws.{ordered_left, ordered_right, ordered_apart, not_both, ordered_pairs}
use Rattle.envelopes.specs.Small.{env_one}
use Rattle.trees.specs.Tree.{Tree, node, leaves, last, Avl, avl_node}
use Rattle.trees.specs.Operations.{Part, Cut, part_leaves}
use Rattle.trees.specs.Leaves.{last_leaf}
use Rattle.trees.proofs.Leaves.{leaves_join_p}
use Rattle.trees.specs.Balanced.{AvlP}
use Rattle.trees.proofs.Balanced.{near_join_p}
use Rattle.trees.specs.Split.{Halves}
use Rattle.trees.proofs.Split.{split_p_halves, split_p_low}
use Rattle.trees.specs.Order.{up_to_last}
use Rattle.dynamic.specs.OfferTree.{OfferTree, fork, shape, Held, hold, Lowered, cut_behind, lower_tree, lower}
use Rattle.dynamic.specs.Valid.{Valid, valid_single, valid_fork, Whole}
use Rattle.dynamic.specs.Lower.{LowersTo, cut_halves, valid_env}

module _ (S : Figure) (L : PseudoLines S) where
  -- a fork's envelope is parted at its bridge
  pub fork_halves :
      (u v : S.Line) (l r : OfferTree S.Line) (ql qr e : Part S.Line) (up_to from : List S.Line) →
      Ordered S (leaves (shape l) ++ leaves (shape r)) →
      part_leaves e ≡ (up_to ++ u ∷ []) ++ v ∷ from →
      Valid S l ((up_to ++ u ∷ []) ++ part_leaves ql) →
      Valid S r (part_leaves qr ++ v ∷ from) →
      Halves (cut_behind S (last (shape l)) e) (up_to ++ u ∷ []) (v ∷ from)
  fork_halves u v l r ql qr e up_to from o p vl vr =
      (cut_halves S L) (shape l) (leaves (shape r)) e (up_to ++ u ∷ []) (v ∷ from) o p
      (λ a m. sublist_mem (valid_env S L vl).sub (Memᴰ.append_left (part_leaves ql) m))
      (λ a m. sublist_mem (valid_env S L vr).sub (Memᴰ.append_right (part_leaves qr) m))

  lower_valid :
      {u v : S.Line} {l r : OfferTree S.Line} {ql qr : Part S.Line} (e : Part S.Line) →
      Ordered S (leaves (shape l) ++ leaves (shape r)) →
      Valid S (fork u v l ql qr r) (part_leaves e) →
      Avl (node (shape l) (shape r)) →
      AvlP e →
      LowersTo S l r (lower_tree S (fork u v l ql qr r) e)
  unfolding lower_tree
  lower_valid {u} {v} {l} {r} {ql} {qr} e o (valid_fork up_to from p vl vr al ar E) (avl_node bl br hl hr) b =
      let c : Cut S.Line = cut_behind S (last (shape l)) e in
      let H : Halves c (up_to ++ u ∷ []) (v ∷ from) = fork_halves u v l r ql qr e up_to from o p vl vr in
      let K = split_p_low (λ x. not (S.before (last (shape l)) x)) e b in
      record {
        front_tree = refl;
        back_tree = refl;
        front =
            record {
              ordered = ordered_left S (leaves (shape l)) (leaves (shape r)) o;
              valid = rw (leaves_join_p, H.before) vl;
              balanced = bl;
              balanced_whole = (near_join_p c.front ql K.front_avl al).avl;
            };
        back =
            record {
              ordered = ordered_right S (leaves (shape l)) (leaves (shape r)) o;
              valid = rw (leaves_join_p, H.after) vr;
              balanced = br;
              balanced_whole = (near_join_p qr c.back ar K.back_avl).avl;
            };
      }

  pub whole_lower : {u v : S.Line} {l r : OfferTree S.Line} {ql qr : Part S.Line} {h : Held S.Line} → Whole S h → h.tree ≡ fork u v l ql qr r →
      LowersTo S l r (lower S h)
  whole_lower {u} {v} {l} {r} {ql} {qr} {h} w q =
      let w' : Whole S (hold (fork u v l ql qr r) h.whole) = subst (λ (t : OfferTree S.Line). Whole S (hold t h.whole)) q w in
      subst (λ (t : OfferTree S.Line). LowersTo S l r (lower S (hold t h.whole))) (sym q)
      (lower_valid h.whole w'.ordered w'.valid w'.balanced w'.balanced_whole)
