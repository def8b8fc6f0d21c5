-- One step of each operation under each outcome of its test: what a program that follows it meets.
use Rattle.std.specs.Prelude.{◌≡◌, Bool, cond, not, ◌≢◌, leb, ℤ}
use Rattle.std.proofs.Math.Path.{sym, ap}
use Rattle.std.proofs.Common.{◌∙◌, le→leb}
use Rattle.std.proofs.Math.Option.{none, some}
use Prim.Native.Nat.{suc, ◌≤◌, ◌<◌}
use native.Mathlib.Omega.{arith}
use Rattle.std.proofs.Math.Arith.{le→nltb, lt→nleb}
use Rattle.std.proofs.Math.Dec.{T, not_T, lt→ltb}
use Rattle.std.specs.Int.Signed.{lt_z}
use Rattle.lists.specs.Bools.{cond_yes, cond_no, cond_again}
use Rattle.integers.specs.Equal.{equal}
use Rattle.integers.specs.Parts.{equal_eq, equal_is}
use Rattle.trees.specs.Tree.{Tree, leaf, node, height, last, mirror, Avl, avl_node}
use Rattle.trees.specs.Operations.{towers, double_right, double_left, rotate_right, rotate_left, balance, join_r, join_l, join, split, after_left}
use Rattle.trees.specs.Operations.{before_right, all_front, all_back, add, find}
use Rattle.trees.specs.Mirror.{mirror_injective, height_mirror, avl_mirror}

module _ {A : Type 0} where
  -- ---- rotations

  pub rotate_right_single : (a m r : Tree A) → height m ≤ height a → rotate_right (node a m) r ≡ node a (node m r)
  unfolding rotate_right
  rotate_right_single a m r h = cond_yes (leb (height m) (height a)) _ _ (le→leb _ _ h)

  pub rotate_right_double : (a b c r : Tree A) → height a < height (node b c) → rotate_right (node a (node b c)) r ≡ node (node a b) (node c r)
  unfolding rotate_right double_right
  rotate_right_double a b c r h = cond_no (leb (height (node b c)) (height a)) _ _ (lt→nleb _ _ h)

  pub rotate_left_single : (l m d : Tree A) → height m ≤ height d → rotate_left l (node m d) ≡ node (node l m) d
  unfolding rotate_left
  rotate_left_single l m d h = cond_yes (leb (height m) (height d)) _ _ (le→leb _ _ h)

  pub rotate_left_double : (l b c d : Tree A) → height d < height (node b c) → rotate_left l (node (node b c) d) ≡ node (node l b) (node c d)
  unfolding rotate_left double_left
  rotate_left_double l b c d h = cond_no (leb (height (node b c)) (height d)) _ _ (lt→nleb _ _ h)

  -- ---- balance

  pub balance_right : (l r : Tree A) → suc (height r) < height l → balance l r ≡ rotate_right l r
  unfolding balance
  balance_right l r h = cond_yes (towers l r) _ _ (lt→ltb _ _ h)

  pub balance_left : (l r : Tree A) → suc (height l) < height r → balance l r ≡ rotate_left l r
  unfolding balance
  balance_left l r h =
      let low : height l ≤ suc (height r) = omega arith in
      cond_no (towers l r) _ _ (le→nltb _ _ low) ∙ cond_yes (towers r l) _ _ (lt→ltb _ _ h)

  pub balance_level : (l r : Tree A) → height l ≤ suc (height r) → height r ≤ suc (height l) → balance l r ≡ node l r
  unfolding balance
  balance_level l r hl hr = cond_no (towers l r) _ _ (le→nltb _ _ hl) ∙ cond_no (towers r l) _ _ (le→nltb _ _ hr)

  -- ---- join: down the higher tree's inner spine

  pub join_level : (l r : Tree A) → height l ≤ suc (height r) → height r ≤ suc (height l) → join l r ≡ node l r
  unfolding join
  join_level l r hl hr = cond_no (towers l r) _ _ (le→nltb _ _ hl) ∙ cond_no (towers r l) _ _ (le→nltb _ _ hr)

  -- each side's function is join itself where the other tree does not tower
  pub join_r_join : (l r : Tree A) → height r ≤ suc (height l) → join_r l r ≡ join l r
  unfolding join join_r
  join_r_join (leaf x) r h = sym (join_level (leaf x) r (omega arith) h)
  join_r_join (node a b) r h =
      sym (ap (cond (towers (node a b) r) (join_r (node a b) r)) (cond_no (towers r (node a b)) _ _ (le→nltb _ _ h)) ∙ cond_again (towers (node a b) r) _ _)

  pub join_left : (a b r : Tree A) → Avl (node a b) → suc (height r) < height (node a b) → join (node a b) r ≡ balance a (join b r)
  unfolding join join_r
  join_left a b r (avl_node pa pb ha hb) h =
      let t : T (towers (node a b) r) = lt→ltb _ _ h in
      cond_yes (towers (node a b) r) _ _ t ∙ cond_yes (towers (node a b) r) _ _ t ∙ ap (balance a) (join_r_join b r (omega arith))

  -- ---- split

  module _ (test : A → Bool) where
    pub split_front : (x : A) → T (test x) → split test (leaf x) ≡ all_front (leaf x)
    unfolding split
    split_front x t = cond_yes (test x) _ _ t

    pub split_back : (x : A) → T (not (test x)) → split test (leaf x) ≡ all_back (leaf x)
    unfolding split
    split_back x t = cond_no (test x) _ _ t

    pub split_right : (l r : Tree A) → T (test (last l)) → split test (node l r) ≡ after_left l (split test r)
    unfolding split
    split_right l r t = cond_yes (test (last l)) _ _ t

    pub split_left : (l r : Tree A) → T (not (test (last l))) → split test (node l r) ≡ before_right (split test l) r
    unfolding split
    split_left l r t = cond_no (test (last l)) _ _ t

  -- ---- add

  module _ (test : A → Bool) (a : A) where
    pub add_behind : (x : A) → T (test x) → add test a (leaf x) ≡ join (leaf x) (leaf a)
    unfolding add
    add_behind x t = cond_yes (test x) _ _ t

    pub add_before : (x : A) → T (not (test x)) → add test a (leaf x) ≡ join (leaf a) (leaf x)
    unfolding add
    add_before x t = cond_no (test x) _ _ t

    pub add_right : (l r : Tree A) → T (test (last l)) → add test a (node l r) ≡ join l (add test a r)
    unfolding add
    add_right l r t = cond_yes (test (last l)) _ _ t

    pub add_left : (l r : Tree A) → T (not (test (last l))) → add test a (node l r) ≡ join (add test a l) r
    unfolding add
    add_left l r t = cond_no (test (last l)) _ _ t

  -- ---- find

  module _ (key : A → ℤ) (k : ℤ) where
    pub find_right : (l r : Tree A) → T (lt_z k (key (last l))) → find key k (node l r) ≡ find key k r
    unfolding find
    find_right l r t = cond_yes (lt_z k (key (last l))) _ _ t

    pub find_left : (l r : Tree A) → T (not (lt_z k (key (last l)))) → find key k (node l r) ≡ find key k l
    unfolding find
    find_left l r t = cond_no (lt_z k (key (last l))) _ _ t

    pub find_here : (x : A) → key x ≡ k → find key k (leaf x) ≡ some x
    unfolding find
    find_here x e = cond_yes (equal (key x) k) _ _ (equal_is (key x) k e)

    pub find_miss : (x : A) → key x ≢ k → find key k (leaf x) ≡ none
    unfolding find
    find_miss x n = cond_no (equal (key x) k) _ _ (not_T (equal (key x) k) (λ t. n (equal_eq (key x) k t)))
