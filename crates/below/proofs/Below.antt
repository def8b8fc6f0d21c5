-- Theorems on specs/Below.
use Rattle.std.specs.Prelude.{◌≡◌, Bool, true, false, List, [], ◌∷◌, ◌++◌, T}
use Rattle.std.proofs.Math.Path.{refl, ap}
use Rattle.std.proofs.Common.{sym, ◌∙◌, ap₂, subst}
use Rattle.std.proofs.Math.Bool.{cond}
use mathlib.Core.List.Memᴰ
use Rattle.lists.specs.Filter.{keep, keep_append, keep_none}
use Rattle.envelopes.specs.PseudoLines.{Figure, PseudoLines}
use Rattle.envelopes.specs.Envelope.{Ordered, Env}
use Rattle.envelopes.specs.EnvelopeLaws.{ordered_left, ordered_right}
use Rattle.trees.specs.Tree.{Tree, leaves}
use Rattle.trees.specs.Operations.{part_leaves}
use Rattle.dynamic.specs.OfferTree.{OfferTree, single, fork, shape}
use Rattle.dynamic.specs.Valid.{Valid, valid_single, valid_fork}
use Rattle.dynamic.specs.Lower.{valid_env}
use Rattle.below.specs.Least.{Least}
use Rattle.below.specs.Children.{Seeks, left_of, right_of, Lesser, least_all}
use Rattle.below.proofs.Children.{children}
use Rattle.below.specs.Below.{Limit, below, none_below}

module _ (S : Figure) (L : PseudoLines S) (x : S.Point) (test : S.Line → Bool) (limit : Limit S x test) where
  module _ (seek : Tree S.Line → S.Line) (seeks : Seeks S x seek) where
    pub below_exact : {t : OfferTree S.Line} {es : List S.Line} {e : S.Line} → Valid S t es → Ordered S (leaves (shape t)) → Least S es e x →
        below S x seek test t e ≡ keep test (leaves (shape t))
    unfolding below
    below_exact {e} (valid_single {a}) o M = ap (λ z. cond (test z) (a ∷ []) []) (Memᴰ.eq_of_singleton M.one_of)
    below_exact {e} (valid_fork {u} {v} {l} {r} {ql} {qr} {es} up_to from d vl vr al ar E) o M =
        go (test e) refl (below_exact vl (ordered_left S (leaves (shape l)) (leaves (shape r)) o) C.left)
        (below_exact vr (ordered_right S (leaves (shape l)) (leaves (shape r)) o) C.right)
      where
        C : Lesser S x ((up_to ++ u ∷ []) ++ part_leaves ql) (part_leaves qr ++ v ∷ from) (left_of S x seek u l ql e) (right_of S x seek v l qr e)
        C = children S L x seek seeks u v l r ql qr up_to from o d E (valid_env S L vl) (valid_env S L vr) M

        go : {fs gs : List S.Line} (b : Bool) → test e ≡ b → fs ≡ keep test (leaves (shape l)) → gs ≡ keep test (leaves (shape r)) →
            cond b (fs ++ gs) [] ≡ keep test (leaves (shape l) ++ leaves (shape r))
        go true q f g = ap₂ (λ a b. a ++ b) f g ∙ sym (keep_append test (leaves (shape l)) (leaves (shape r)))
        go false q f g = sym ((none_below S L x test limit) E M q)
