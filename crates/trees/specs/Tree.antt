-- Leaf-oriented trees: the items stand at the leaves, from left to right. One type serves the offers, the pieces and the numbers.
use Rattle.std.specs.Prelude.{List, [], ◌∷◌, ◌++◌, ℕ, zero, suc, ◌≤◌, max}

pub data Tree (A : Type 0) : Type 0 where
  leaf : A → Tree A
  node : Tree A → Tree A → Tree A

module _ {A : Type 0} where
  -- the number of edges from the root to the deepest leaf
  abbrev pub height : Tree A → ℕ
  height (leaf a) = zero
  height (node l r) = suc (max (height l) (height r))

  abbrev pub leaves : Tree A → List A
  leaves (leaf a) = a ∷ []
  leaves (node l r) = leaves l ++ leaves r

  abbrev pub first : Tree A → A
  first (leaf a) = a
  first (node l r) = first l

  abbrev pub last : Tree A → A
  last (leaf a) = a
  last (node l r) = last r

  abbrev pub mirror : Tree A → Tree A
  mirror (leaf a) = leaf a
  mirror (node l r) = node (mirror r) (mirror l)

  -- siblings' heights differ by at most one, everywhere
  pub data Avl : Tree A → Type 0 where
    avl_leaf : {a : A} → Avl (leaf a)
    avl_node : {l r : Tree A} → Avl l → Avl r → height l ≤ suc (height r) → height r ≤ suc (height l) → Avl (node l r)
