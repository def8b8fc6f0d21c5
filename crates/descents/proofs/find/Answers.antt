-- `descents::find` meets its contract: each step of the way down goes right of a leaf with a greater key, and the leaf at its end has the key, or none has.
use borrow.Author.Rules.{rules}
use lib.Signed.{lt_z}
use mir.Facts.{to_z-of_z}
use mathlib.Core.Bool.{true, false}
use Rattle.trees.specs.Operations.{find}
use Rattle.descents.specs.Seeks.{looking_begins, looking_down}
use Rattle.descents.specs.Finds.{find_leads, find_ends}
use Rattle.descents.proofs.find.Goals as goal

pub returns-then-is_equal : goal.returns-then-is_equal
returns-then-is_equal c = let q = looking_down lt_z find_leads c.args.key (λ u z s. search rules) (looking_begins find _ _ _ _ _) c.leaf_below-y.ensures in
    find_ends _ true q.looking q.low (simp (to_z-of_z, c.ranges.key) at c.is_equal.ensures) c.if-is_equal.true

pub returns : goal.returns
returns c = let q = looking_down lt_z find_leads c.args.key (λ u z s. search rules) (looking_begins find _ _ _ _ _) c.leaf_below-y.ensures in
    find_ends _ false q.looking q.low (simp (to_z-of_z, c.ranges.key) at c.is_equal.ensures) c.if-is_equal.false
