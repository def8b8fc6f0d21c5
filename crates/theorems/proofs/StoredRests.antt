-- Theorems on specs/StoredRests.
use Rattle.std.specs.Prelude.{◌≡◌}
use Rattle.std.proofs.Common.{sym, subst, ⊎_elim}
use Rattle.std.proofs.Math.Logic.{⊎_swap}
use mathlib.Core.List.Memᴰ
use mathlib.Core.List.{List, [], ◌∷◌, ◌++◌, Memᴰ}
use Rattle.lists.specs.Places.{sublist_mem, prefix_sub}
use Rattle.envelopes.specs.PseudoLines.{Figure, PseudoLines}
use Rattle.envelopes.specs.Envelope.{Env, Ordered}
use Rattle.envelopes.specs.EnvelopeLaws.{ordered_left, ordered_right, ordered_sublist}
use Rattle.trees.specs.Tree.{leaves}
use Rattle.trees.specs.Operations.{part_leaves}
use Rattle.dynamic.specs.OfferTree.{OfferTree, single, fork, shape, Held}
use Rattle.dynamic.specs.Valid.{Valid, valid_fork, Whole}
use Rattle.dynamic.specs.Lower.{valid_env}
use Rattle.theorems.specs.StoredRests.{EachLess, Less, behind, divides, once}

module _ (S : Figure) (L : PseudoLines S) where
  left_less :
      (ls rs up rest back es : List S.Line) → Ordered S (ls ++ rs) → Env S ls (up ++ rest) → ((e : S.Line) → Memᴰ e back → Memᴰ e rs) →
      es ≡ up ++ back → Less S ls (up ++ rest) es rest
  left_less ls rs up rest back es o E inside d =
      divides S (λ e m. ⊎_swap (Memᴰ.append_cases up m)) (λ e m. subst (Memᴰ e) (sym d) (Memᴰ.append_left back m)) off (behind up rest) E
    where
      off : (e : S.Line) → Memᴰ e rest → ¬ Memᴰ e es
      off e m n =
          ⊎_elim (λ k. (once S L) up rest (ordered_sublist S E.sub (ordered_left S ls rs o)) e k m)
          (λ k. (once S L) ls rs o e (sublist_mem E.sub (Memᴰ.append_right up m)) (inside e k))
          (Memᴰ.append_cases up (subst (Memᴰ e) d n))

  right_less :
      (ls rs front rest from es : List S.Line) → Ordered S (ls ++ rs) → Env S rs (rest ++ from) →
      ((e : S.Line) → Memᴰ e front → Memᴰ e ls) → es ≡ front ++ from → Less S rs (rest ++ from) es rest
  right_less ls rs front rest from es o E inside d =
      divides S (λ e m. Memᴰ.append_cases rest m) (λ e m. subst (Memᴰ e) (sym d) (Memᴰ.append_right front m)) off (prefix_sub rest from) E
    where
      off : (e : S.Line) → Memᴰ e rest → ¬ Memᴰ e es
      off e m n =
          ⊎_elim (λ k. (once S L) ls rs o e (inside e k) (sublist_mem E.sub (Memᴰ.append_left from m)))
          (λ k. (once S L) rest from (ordered_sublist S E.sub (ordered_right S ls rs o)) e m k)
          (Memᴰ.append_cases front (subst (Memᴰ e) d n))

  pub each_less : (t : OfferTree S.Line) (es : List S.Line) → Ordered S (leaves (shape t)) → Valid S t es → EachLess S t es
  each_less (single a) es o v = tt
  each_less (fork u v l ql qr r) es o (valid_fork up_to from d vl vr al ar E) =
      let ls = leaves (shape l) in
      let rs = leaves (shape r) in
      let El = valid_env S L vl in
      let Er = valid_env S L vr in
      let f = left_less ls rs (up_to ++ u ∷ []) (part_leaves ql) (v ∷ from) es o El (λ e m. sublist_mem Er.sub (Memᴰ.append_right (part_leaves qr) m)) d in
      let b = right_less ls rs (up_to ++ u ∷ []) (part_leaves qr) (v ∷ from) es o Er (λ e m. sublist_mem El.sub (Memᴰ.append_left (part_leaves ql) m)) d in
      (_, _, f, b, each_less l _ (ordered_left S ls rs o) vl, each_less r _ (ordered_right S ls rs o) vr)

  -- of a subtree with its whole envelope in hand
  pub whole_less : (h : Held S.Line) → Whole S h → EachLess S h.tree (part_leaves h.whole)
  whole_less h w = each_less h.tree (part_leaves h.whole) w.ordered w.valid
