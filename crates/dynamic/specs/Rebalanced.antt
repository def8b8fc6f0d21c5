-- Rebalancing two siblings whose heights differ by at most two: one, two or three searches, and the row and the log stay right.
use Rattle.std.specs.Prelude.{ℕ, suc, ◌≤◌, ◌<◌, max, ◌≡◌, List, [], ◌∷◌, ◌++◌, leb, length}
use Rattle.std.proofs.Common.{arith, ◌∙◌, append_assoc, leb→le, ltb→lt, nltb→le, length-append}
use Rattle.std.proofs.Math.Dec.{nleb→lt}
use Rattle.lists.specs.Bools.{cond_both}
use Rattle.envelopes.specs.PseudoLines.{Figure, PseudoLines}
use Rattle.trees.specs.Operations.{towers}
use Rattle.meeting.specs.Machine.{Side, left, right}
use Rattle.dynamic.specs.OfferTree.{Held, held_shape, Pair, Made, and_then, outer, inner, lower, raise, raise_on}
use Rattle.dynamic.specs.Updates.{rotate, rebalance}
use Rattle.dynamic.specs.Work.{Inner}
use Rattle.dynamic.specs.Forests.{row_on, merged_here, merged_there, merged_on}
use Rattle.dynamic.specs.Kept.{Kept, held_height, Above}

-- What a rotation makes where the taller sibling has height h.
pub record Rotated (S : Figure) (before : List (Inner S.Line)) (live : List S.Line) (row : List (Held S.Line)) (log : List (Pair S.Line)) (h : ℕ)
    (m : Made S.Line) : Type 0 where
  pub kept : Kept S before live row (log ++ m.log)
  pub low : h ≤ held_height m.held
  pub high : held_height m.held ≤ suc h
  pub few : length m.log ≤ 3

-- Heights: siblings l and r come under a tree of height h; where they are level within one, under a node of their own.
pub record Balances (l r h : ℕ) : Type 0 where
  pub low : max l r ≤ h
  pub high : h ≤ suc (max l r)
  pub level : l ≤ suc r → r ≤ suc l → h ≡ suc (max l r)

pub balances_turned : {l r h : ℕ} → Balances l r h → Balances r l h
balances_turned {l} {r} {h} b = record { low = omega (arith, b.low); high = omega (arith, b.high); level = λ p q. b.level q p ∙ omega arith }

-- What rebalancing makes of the siblings l and r.
pub record Joined (S : Figure) (before : List (Inner S.Line)) (live : List S.Line) (row : List (Held S.Line)) (log : List (Pair S.Line))
    (l r : Held S.Line) (m : Made S.Line) : Type 0 where
  pub kept : Kept S before live row (log ++ m.log)
  pub heights : Balances (held_height l) (held_height r) (held_height m.held)
  pub few : length m.log ≤ 3

-- Heights at a double rotation: t and s are the siblings', o and i those of the taller one's children, p and q of i's, x of the tree above o and p.
pub record Doubled (t o p q s x : ℕ) : Type 0 where
  pub o_level : o ≤ suc p
  pub p_level : p ≤ suc o
  pub q_level : q ≤ suc s
  pub s_level : s ≤ suc q
  pub x_level : x ≡ suc (max o p) → (x ≤ suc (suc (max q s))) × (max q s ≤ x) × (t ≤ suc (max x (suc (max q s)))) × (suc (max x (suc (max q s))) ≤ suc t)

pub doubled :
    {t o i p q s : ℕ} (x : ℕ) → t ≡ suc (suc s) → t ≡ suc (max o i) → o ≤ suc i → i ≤ suc o → i ≡ suc (max p q) → p ≤ suc q → q ≤ suc p → o < i →
    Doubled t o p q s x
doubled x e a ao ai b bp bq lt = omega arith

-- Three neighbours made one: the inner two first, then the outer one with them.
abbrev pub gather : (S : Figure) → Side → (o i s : Held S.Line) → Made S.Line
gather S side o i s = and_then (raise_on S side i s) (λ y. raise_on S side o y)

pub record Gathered (S : Figure) (before : List (Inner S.Line)) (live : List S.Line) (row : List (Held S.Line)) (log : List (Pair S.Line))
    (o i s : Held S.Line) (m : Made S.Line) : Type 0 where
  pub kept : Kept S before live row (log ++ m.log)
  pub higher : held_height m.held ≡ suc (max (held_height o) (suc (max (held_height i) (held_height s))))
  pub two : length m.log ≡ 2

module _ (S : Figure) (L : PseudoLines S) (before : List (Inner S.Line)) (live : List S.Line) (xs ys : List (Held S.Line)) where
  module _ (side : Side) where
    -- the row after a rotation
    abbrev pub After : List (Pair S.Line) → ℕ → Made S.Line → Type 0
    After log h m = Rotated S before live (xs ++ row_on side (m.held ∷ []) ys) log h m

  pub tall_joined :
      {l r : Held S.Line} {row : List (Held S.Line)} {log : List (Pair S.Line)} {h : ℕ} {m : Made S.Line} →
      max (held_height l) (held_height r) ≡ h →
      (held_height l ≤ suc (held_height r) → held_height r ≤ suc (held_height l) → ⊥) →
      Rotated S before live row log h m →
      Joined S before live row log l r m
  tall_joined e f R = record { kept = R.kept; heights = record { low = rw e R.low; high = rw e R.high; level = λ a b. absurd (f a b) }; few = R.few }
