-- How many nodes the report visits.
use Rattle.std.specs.Prelude.{ℕ, suc, ◌+◌, Bool, cond}
use Rattle.envelopes.specs.PseudoLines.{Figure}
use Rattle.trees.specs.Tree.{Tree}
use Rattle.dynamic.specs.OfferTree.{OfferTree, single, fork}
use Rattle.below.specs.Children.{left_of, right_of}

module _ (S : Figure) (x : S.Point) (seek : Tree S.Line → S.Line) where
  -- the nodes at which `below` looks, the root among them
  unfoldable pub visits : (S.Line → Bool) → OfferTree S.Line → S.Line → ℕ
  visits test (single a) e = 1
  visits test (fork u v l ql qr r) e = cond (test e) (suc (visits test l (left_of S x seek u l ql e) + visits test r (right_of S x seek v l qr e))) 1
