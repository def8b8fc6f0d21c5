-- `check_trees::fill_leaf` meets its contract.
use Rattle.check_trees.specs.Fills.{fills_leaf_none, fills_leaf_far, fills_leaf_full, fills_leaf}
use Rattle.check_trees.proofs.fill_leaf.Goals as goal
use Rattle.check_trees.proofs.fill_leaf.Goals.{then-x-lt1-via-then-x-lt1, then-x-lt1-via-else-x-lt1+then-capacity-x}

pub returns-then-x-lt1 : goal.returns-then-x-lt1
returns-then-x-lt1 c =
    λ h.
    elim c.then-x-lt1.branch [
      | then-x-lt1-via-then-x-lt1 w ↦ fills_leaf_none h w.if-x-lt1.true
      | then-x-lt1-via-else-x-lt1+then-capacity-x w ↦ fills_leaf_far h w.capacity.ensures w.if-capacity-x.true
    ]

pub returns-then-at-ge-SCRATCH : goal.returns-then-at-ge-SCRATCH
returns-then-at-ge-SCRATCH c = λ h. fills_leaf_full h c.if-at-ge-SCRATCH.true

pub returns : goal.returns
returns c = λ h. fills_leaf h c.told-scratch c.if-x-lt1.false c.capacity.ensures c.if-capacity-x.false c.if-at-ge-SCRATCH.false
