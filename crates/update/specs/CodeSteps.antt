-- What the code of rebalancing, and of lowering and raising from a side, hands to its lemmas: a side as a test, and heights as read.
use Rattle.std.specs.Prelude.{◌≡◌, ℕ, ◌<◌, ◌≤◌, Bool, true, false}
use Rattle.std.proofs.Common.{sym, ◌∙◌, subst, arith, ltb-true, ltb-false}
use Rattle.table.specs.Fields.{offer_tree}
use Rattle.table.specs.Words.{Words}
use Rattle.shape.specs.Splices.{towers_at}
use Rattle.levels.specs.Levels.{LoweredIn, RaisedIn}
use Rattle.update.specs.Steps.{RebalancedIn}
use Rattle.levels.specs.declared.Held.{Held as InHand}
use Rattle.levels.specs.declared.Made.{Made as Outcome}
use Rattle.levels.specs.declared.Lowered.{Lowered}
use Rattle.update.specs.Neighbours.{LoweredOn, lowered_left, lowered_right, RaisedOn, raised_left, raised_right}
use Rattle.update.specs.Rotating.{RotatedIn}
use Rattle.update.specs.Rebalancing.{rebalanced_level, rebalanced_left, rebalanced_right, RebalancedOn, rebalanced_on_left, rebalanced_on_right}

-- ---- sides

module _ {side : Bool} {x : InHand} {c : Lowered} {w w' : Words} where
  pub lowered_one : side ≡ false → LoweredIn x w w' c → LoweredOn side x w w' (record { on = c.left; off = c.right })
  lowered_one d low = subst (λ b. LoweredOn b x w w' (record { on = c.left; off = c.right })) (sym d) (lowered_left low)

  pub lowered_other : side ≡ true → LoweredIn x w w' c → LoweredOn side x w w' (record { on = c.right; off = c.left })
  lowered_other d low = subst (λ b. LoweredOn b x w w' (record { on = c.right; off = c.left })) (sym d) (lowered_right low)

module _ {side : Bool} {gap : ℕ} {x y : InHand} {m : Outcome} {w w' : Words} where
  pub raised_one : side ≡ false → RaisedIn gap x y w w' m → RaisedOn side gap x y w w' m
  raised_one d c = subst (λ b. RaisedOn b gap x y w w' m) (sym d) (raised_left c)

  pub raised_other : side ≡ true → RaisedIn gap y x w w' m → RaisedOn side gap x y w w' m
  raised_other d c = subst (λ b. RaisedOn b gap x y w w' m) (sym d) (raised_right c)

  pub rebalanced_one : side ≡ false → RebalancedIn gap x y w w' m → RebalancedOn side gap x y w w' m
  rebalanced_one d c = subst (λ b. RebalancedOn b gap x y w w' m) (sym d) (rebalanced_on_left c)

  pub rebalanced_other : side ≡ true → RebalancedIn gap y x w w' m → RebalancedOn side gap x y w w' m
  rebalanced_other d c = subst (λ b. RebalancedOn b gap x y w w' m) (sym d) (rebalanced_on_right c)

-- ---- heights as read

pub read_le : {p q a b : ℕ} → a ≡ p → b ≡ q → a ≤ b → p ≤ q
read_le d e h = omega arith

pub read_lt : {p q a b : ℕ} → a ≡ p → b ≡ q → a < b → p < q
read_lt d e h = omega arith

module _ {gap : ℕ} {x y : InHand} {m : Outcome} {w w' : Words} where
  pub tall_left_lem : {a : Bool} → a ≡ towers_at w offer_tree x.tree y.tree → a ≡ true → RotatedIn false gap x y w w' m → RebalancedIn gap x y w w' m
  tall_left_lem d t c = rebalanced_left (ltb-true _ _ (sym d ∙ t)) c

  pub tall_right_lem : {a : Bool} → a ≡ towers_at w offer_tree y.tree x.tree → a ≡ true → RotatedIn true gap y x w w' m → RebalancedIn gap x y w w' m
  tall_right_lem d t c = rebalanced_right (ltb-true _ _ (sym d ∙ t)) c

  pub none_tall :
      {a b : Bool} →
      a ≡ towers_at w offer_tree x.tree y.tree →
      a ≡ false →
      b ≡ towers_at w offer_tree y.tree x.tree →
      b ≡ false →
      RaisedIn gap x y w w' m →
      RebalancedIn gap x y w w' m
  none_tall d t f u c = rebalanced_level (ltb-false _ _ (sym d ∙ t)) (ltb-false _ _ (sym f ∙ u)) c
