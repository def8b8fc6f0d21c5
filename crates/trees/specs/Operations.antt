-- The operations on trees, step for step as a program makes them: a test on heights is a Bool, and each function recurs on one tree.
-- Where a clause is marked as idle, no tree that the tests let through comes there; it only makes the function total.
use Rattle.std.specs.Prelude.{Bool, cond, List, [], ℕ, zero, suc, leb, ltb, ℤ}
use Rattle.std.proofs.Math.Option.{Option, none, some}
use Rattle.std.specs.Int.Signed.{lt_z}
use Rattle.integers.specs.Equal.{equal}
use Rattle.trees.specs.Tree.{Tree, leaf, node, height, leaves, last}

-- A tree that may be empty.
abbrev pub Part : Type 0 → Type 0
Part A = Option (Tree A)

-- What a cut leaves: the part in front of it and the part behind it.
pub record Cut (A : Type 0) : Type 0 where
  pub front : Part A
  pub back : Part A

module _ {A : Type 0} where
  -- s stands more than one higher than t
  abbrev pub towers : Tree A → Tree A → Bool
  towers s t = ltb (suc (height t)) (height s)

  -- ---- rotations

  -- siblings a, m, r whose middle one comes up between them
  unfoldable pub double_right : Tree A → Tree A → Tree A → Tree A
  double_right a (node b c) r = node (node a b) (node c r)
  double_right a (leaf x) r = node a (node (leaf x) r)  -- idle

  unfoldable pub double_left : Tree A → Tree A → Tree A → Tree A
  double_left l (node b c) d = node (node l b) (node c d)
  double_left l (leaf x) d = node (node l (leaf x)) d  -- idle

  -- the left sibling towers
  unfoldable pub rotate_right : Tree A → Tree A → Tree A
  rotate_right (node a m) r = cond (leb (height m) (height a)) (node a (node m r)) (double_right a m r)
  rotate_right (leaf x) r = node (leaf x) r  -- idle

  -- the right sibling towers
  unfoldable pub rotate_left : Tree A → Tree A → Tree A
  rotate_left l (node m d) = cond (leb (height m) (height d)) (node (node l m) d) (double_left l m d)
  rotate_left l (leaf x) = node l (leaf x)  -- idle

  -- one tree of two siblings whose heights differ by at most 2
  unfoldable pub balance : Tree A → Tree A → Tree A
  balance l r = cond (towers l r) (rotate_right l r) (cond (towers r l) (rotate_left l r) (node l r))

  -- ---- join

  -- down the right spine of the left tree, as long as it towers
  unfoldable pub join_r : Tree A → Tree A → Tree A
  join_r (leaf x) r = node (leaf x) r
  join_r (node a b) r = cond (towers (node a b) r) (balance a (join_r b r)) (node (node a b) r)

  -- down the left spine of the right tree, as long as it towers
  unfoldable pub join_l : Tree A → Tree A → Tree A
  join_l l (leaf x) = node l (leaf x)
  join_l l (node c d) = cond (towers (node c d) l) (balance (join_l l c) d) (node l (node c d))

  unfoldable pub join : Tree A → Tree A → Tree A
  join l r = cond (towers l r) (join_r l r) (cond (towers r l) (join_l l r) (node l r))

  -- ---- parts

  abbrev pub part_leaves : Part A → List A
  part_leaves none = []
  part_leaves (some t) = leaves t

  abbrev pub part_height : Part A → ℕ
  part_height none = zero
  part_height (some t) = height t

  abbrev pub join_p : Part A → Part A → Part A
  join_p none q = q
  join_p (some l) none = some l
  join_p (some l) (some r) = some (join l r)

  -- ---- split: the leaves in front pass the test, those behind do not. The separator of a node is the last leaf of its left part.

  abbrev pub after_left : Tree A → Cut A → Cut A
  after_left l c = record { front = join_p (some l) c.front; back = c.back }

  abbrev pub before_right : Cut A → Tree A → Cut A
  before_right c r = record { front = c.front; back = join_p c.back (some r) }

  abbrev pub all_front : Tree A → Cut A
  all_front t = record { front = some t; back = none }

  abbrev pub all_back : Tree A → Cut A
  all_back t = record { front = none; back = some t }

  unfoldable pub split : (A → Bool) → Tree A → Cut A
  split test (leaf x) = cond (test x) (all_front (leaf x)) (all_back (leaf x))
  split test (node l r) = cond (test (last l)) (after_left l (split test r)) (before_right (split test l) r)

  unfoldable pub split_p : (A → Bool) → Part A → Cut A
  split_p test none = record { front = none; back = none }
  split_p test (some t) = split test t

  -- ---- add a leaf behind those that pass the test; every separator stays

  unfoldable pub add : (A → Bool) → A → Tree A → Tree A
  add test a (leaf x) = cond (test x) (join (leaf x) (leaf a)) (join (leaf a) (leaf x))
  add test a (node l r) = cond (test (last l)) (join l (add test a r)) (join (add test a l) r)

  abbrev pub add_p : (A → Bool) → A → Part A → Part A
  add_p test a none = some (leaf a)
  add_p test a (some t) = some (add test a t)

  -- ---- find a leaf by its key, keys falling from left to right

  unfoldable pub find : (A → ℤ) → ℤ → Tree A → Option A
  find key k (leaf x) = cond (equal (key x) k) (some x) none
  find key k (node l r) = cond (lt_z k (key (last l))) (find key k r) (find key k l)
