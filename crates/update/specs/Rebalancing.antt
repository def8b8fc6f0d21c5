-- Rebalancing two siblings in words: by their heights, one raise, or a rotation on the side of the taller one.
use Rattle.std.specs.Prelude.{◌≡◌, ℕ, suc, ◌<◌, ◌≤◌, Bool, true, false}
use Rattle.std.proofs.Common.{sym, subst}
use native.Mathlib.Omega.{arith}
use borrow.Author.Tests.{lt-ltb, le-ltb}
use Rattle.trees.specs.Tree.{node, leaves, Avl, avl_node}
use Rattle.meeting.specs.Machine.{left, right}
use Rattle.dynamic.specs.OfferTree.{Held, held_shape, Made, raise}
use Rattle.dynamic.specs.Updates.{rotate, rebalance}
use Rattle.dynamic.specs.Kept.{held_height}
use Rattle.table.specs.Fields.{offer_tree}
use Rattle.table.specs.Words.{Words}
use Rattle.table.specs.Items.{Item}
use Rattle.table.specs.Rep.{node_on, height_at, Within}
use Rattle.pieces.specs.Pieces.{items}
use Rattle.form.specs.Stored.{Touched}
use Rattle.levels.specs.Levels.{MadeIn, Siblings, RaisedIn}
use Rattle.update.specs.Steps.{Near, RebalancedIn}
use Rattle.levels.specs.declared.Held.{Held as InHand}
use Rattle.levels.specs.declared.Made.{Made as Outcome}
use Rattle.update.specs.Neighbours.{held_height_lem, Neighbours, siblings_left, siblings_right, neighbours_left, neighbours_right}
use Rattle.update.specs.Rotating.{RotatedIn}

-- ---- which of the three

module _ (l r : Held Item) where
  rebalance_level : held_height l ≤ suc (held_height r) → held_height r ≤ suc (held_height l) → rebalance items l r ≡ raise items l r
  unfolding rebalance
  rebalance_level p q = rw (le-ltb (suc (held_height r)) (held_height l) p, le-ltb (suc (held_height l)) (held_height r) q)

  rebalance_left : suc (held_height r) < held_height l → rebalance items l r ≡ rotate items left l r
  unfolding rebalance
  rebalance_left p = rw (lt-ltb (suc (held_height r)) (held_height l) p)

  rebalance_right : suc (held_height l) < held_height r → rebalance items l r ≡ rotate items right r l
  unfolding rebalance
  rebalance_right p =
      let q : held_height l ≤ suc (held_height r) = omega arith in
      rw (le-ltb (suc (held_height r)) (held_height l) q, lt-ltb (suc (held_height l)) (held_height r) p)

-- ---- the calls

module _ {gap : ℕ} {x y : InHand} {m : Outcome} {w w' : Words} where
  pub rebalanced_level :
      height_at w offer_tree x.tree ≤ suc (height_at w offer_tree y.tree) →
      height_at w offer_tree y.tree ≤ suc (height_at w offer_tree x.tree) →
      RaisedIn gap x y w w' m →
      RebalancedIn gap x y w w' m
  rebalanced_level p q c =
      record {
        within = c.within;
        made = λ l r g n. subst (MadeIn w' m) (sym (rebalance_level l r (left_low l r g) (right_low l r g))) (c.made l r g (level l r g));
        touched = λ l r g n. c.touched l r g (level l r g);
      }
    where
      left_low : (l r : Held Item) → Siblings w gap x y l r → held_height l ≤ suc (held_height r)
      left_low l r g = omega (arith, p, held_height_lem g.left, held_height_lem g.right)

      right_low : (l r : Held Item) → Siblings w gap x y l r → held_height r ≤ suc (held_height l)
      right_low l r g = omega (arith, q, held_height_lem g.left, held_height_lem g.right)

      level : (l r : Held Item) → Siblings w gap x y l r → Avl (node (held_shape l) (held_shape r))
      level l r g = avl_node g.left.right.balanced g.right.right.balanced (left_low l r g) (right_low l r g)

  pub rebalanced_left : suc (height_at w offer_tree y.tree) < height_at w offer_tree x.tree → RotatedIn false gap x y w w' m → RebalancedIn gap x y w w' m
  rebalanced_left p c =
      record {
        within = c.within;
        made = λ l r g n. subst (MadeIn w' m) (sym (rebalance_left l r (tall l r g))) (c.made l r (siblings_left g) (omega (arith, tall l r g, n.left)));
        touched = λ l r g n. c.touched l r (siblings_left g) (omega (arith, tall l r g, n.left));
      }
    where
      tall : (l r : Held Item) → Siblings w gap x y l r → suc (held_height r) < held_height l
      tall l r g = omega (arith, p, held_height_lem g.left, held_height_lem g.right)

  pub rebalanced_right : suc (height_at w offer_tree x.tree) < height_at w offer_tree y.tree → RotatedIn true gap y x w w' m → RebalancedIn gap x y w w' m
  rebalanced_right p c =
      record {
        within = c.within;
        made = λ l r g n. subst (MadeIn w' m) (sym (rebalance_right l r (tall l r g))) (c.made r l (siblings_right g) (omega (arith, tall l r g, n.right)));
        touched = λ l r g n. c.touched r l (siblings_right g) (omega (arith, tall l r g, n.right));
      }
    where
      tall : (l r : Held Item) → Siblings w gap x y l r → suc (held_height l) < held_height r
      tall l r g = omega (arith, p, held_height_lem g.left, held_height_lem g.right)

-- ---- rebalance from a side

abbrev pub rebalance_on : Bool → Held Item → Held Item → Made Item
rebalance_on false o i = rebalance items o i
rebalance_on true o i = rebalance items i o

pub record RebalancedOn (side : Bool) (gap : ℕ) (x y : InHand) (w w' : Words) (m : Outcome) : Type 0 where
  pub within : Within w w'
  pub made : (o i : Held Item) → Neighbours side w gap x y o i → Near o i → MadeIn w' m (rebalance_on side o i)
  pub touched : (o i : Held Item) → Neighbours side w gap x y o i → Near o i → Touched (leaves (node_on side (held_shape o) (held_shape i))) w w'

near_turned : {l r : Held Item} → Near l r → Near r l
near_turned n = record { left = n.right; right = n.left }

pub rebalanced_on_left : {gap : ℕ} {x y : InHand} {m : Outcome} {w w' : Words} → RebalancedIn gap x y w w' m → RebalancedOn false gap x y w w' m
rebalanced_on_left c = record {
  within = c.within;
  made = λ o i n d. c.made o i (neighbours_left n) d;
  touched =
      λ o i n d. c.touched o i (neighbours_left n) d;
}

pub rebalanced_on_right : {gap : ℕ} {x y : InHand} {m : Outcome} {w w' : Words} → RebalancedIn gap y x w w' m → RebalancedOn true gap x y w w' m
rebalanced_on_right c = record {
  within = c.within;
  made = λ o i n d. c.made i o (neighbours_right n) (near_turned d);
  touched =
      λ o i n d. c.touched i o (neighbours_right n) (near_turned d);
}
