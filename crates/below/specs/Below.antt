-- Every line that passes a test on prices, in order: a node is left alone where its cheapest line does not pass.
use Rattle.std.specs.Prelude.{◌≡◌, Bool, true, false, List, [], ◌∷◌, ◌++◌, T}
use Rattle.std.proofs.Math.Path.{refl, ap}
use Rattle.std.proofs.Common.{sym, ◌∙◌, ap₂, subst}
use Rattle.std.proofs.Math.Bool.{cond}
use mathlib.Core.List.Memᴰ
use Rattle.lists.specs.Filter.{keep, keep_append, keep_none}
use Rattle.envelopes.specs.PseudoLines.{Figure, PseudoLines}
use Rattle.envelopes.specs.Envelope.{Ordered, Env}
use Rattle.envelopes.specs.EnvelopeLaws.{ordered_left, ordered_right}
use Rattle.trees.specs.Tree.{Tree, leaves}
use Rattle.trees.specs.Operations.{part_leaves}
use Rattle.dynamic.specs.OfferTree.{OfferTree, single, fork, shape}
use Rattle.dynamic.specs.Valid.{Valid, valid_single, valid_fork}
use Rattle.dynamic.specs.Lower.{valid_env}
use Rattle.below.specs.Least.{Least}
use Rattle.below.specs.Children.{Seeks, left_of, right_of, Lesser, least_all}

module _ (S : Figure) (x : S.Point) (seek : Tree S.Line → S.Line) where
  -- the lines below the limit, where e is the cheapest of the tree's envelope
  unfoldable pub below : (S.Line → Bool) → OfferTree S.Line → S.Line → List S.Line
  below test (single a) e = cond (test e) (a ∷ []) []
  below test (fork u v l ql qr r) e = cond (test e) (below test l (left_of S x seek u l ql e) ++ below test r (right_of S x seek v l qr e)) []

-- a test of a price: a line at or below one that passes it passes too
abbrev pub Limit : (S : Figure) → S.Point → (S.Line → Bool) → Type 0
Limit S x test = (a b : S.Line) → T (S.at_most a b x) → T (test b) → T (test a)

module _ (S : Figure) (L : PseudoLines S) (x : S.Point) (test : S.Line → Bool) (limit : Limit S x test) where
  -- where the cheapest does not pass, none does
  pub none_below : {ls es : List S.Line} {e : S.Line} → Env S ls es → Least S es e x → test e ≡ false → keep test ls ≡ []
  none_below {ls} {e = e} E M q = keep_none test ls (λ a m t. subst T q (limit e a (least_all S L x E M a m) t))
