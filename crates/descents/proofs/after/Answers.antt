-- `descents::after` meets its contract: each step of the way down goes right of a leaf whose key is not below, and the leaf at its end follows the key, or none does.
use borrow.Author.Rules.{rules}
use lib.Signed.{le_z}
use mir.Facts.{to_z-of_z}
use mathlib.Core.Bool.{true, false}
use Rattle.descents.specs.Seeks.{looking_begins, looking_down}
use Rattle.descents.specs.Afters.{below, below_leads, below_ends}
use Rattle.descents.proofs.after.Goals as goal

pub returns-then-at_least : goal.returns-then-at_least
returns-then-at_least c = let q = looking_down le_z below_leads c.args.key (λ u z s. search rules) (looking_begins below _ _ _ _ _) c.leaf_below-y.ensures in
    below_ends _ true q.looking q.low (simp (to_z-of_z, c.ranges.key) at c.at_least.ensures) c.if-at_least.true

pub returns : goal.returns
returns c = let q = looking_down le_z below_leads c.args.key (λ u z s. search rules) (looking_begins below _ _ _ _ _) c.leaf_below-y.ensures in
    below_ends _ false q.looking q.low (simp (to_z-of_z, c.ranges.key) at c.at_least.ensures) c.if-at_least.false
