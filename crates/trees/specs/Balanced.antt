-- The operations keep siblings' heights within one of each other, and a result is as high as the higher tree or one higher.
use Rattle.std.specs.Prelude.{◌≡◌, not, leb}
use Rattle.std.proofs.Common.{ap, ltb→lt, nltb→le}
use Rattle.std.proofs.Math.Option.{none, some}
use Prim.Native.Nat.{ℕ, suc, max, ◌≤◌, ◌<◌}
use Rattle.std.proofs.Math.Nat.{max_comm}
use Rattle.std.proofs.Math.Decide.{dec_le}
use native.Mathlib.Omega.{arith}
use Rattle.std.proofs.Math.Dec.{T, leb→le, nleb→lt}
use Rattle.lists.specs.Bools.{cond_both}
use Rattle.trees.specs.Tree.{Tree, leaf, node, height, mirror, Avl, avl_node}
use Rattle.trees.specs.Operations.{Part, towers, double_right, rotate_right, rotate_left, balance, join_r, join_l, join, part_height, join_p}
use Rattle.trees.specs.ByHeights.{by_heights}
use Rattle.trees.specs.TreeSteps.{balance_level}
use Rattle.trees.specs.Mirror.{height_mirror, avl_mirror, avl_unmirror}

module _ {A : Type 0} where
  -- t is balanced and of height h, or one higher
  pub record Near (h : ℕ) (t : Tree A) : Type 0 where
    pub avl : Avl t
    pub low : h ≤ height t
    pub high : height t ≤ suc h

  pub near_mirror : {h : ℕ} (t : Tree A) → Near h (mirror t) → Near h t
  near_mirror t n = record { avl = avl_unmirror t n.avl; low = rw height_mirror at n.low; high = rw height_mirror at n.high }

  pub near_is : {h k : ℕ} {t : Tree A} → Near h t → h ≡ k → Near k t
  near_is n e = record { avl = n.avl; low = omega arith; high = omega arith }

  pub near_node : (l r : Tree A) → Avl l → Avl r → height l ≤ suc (height r) → height r ≤ suc (height l) → Near (max (height l) (height r)) (node l r)
  near_node l r pl pr hl hr = record { avl = avl_node pl pr hl hr; low = omega arith; high = omega arith }

  -- ---- rotations, of siblings whose heights differ by two

  pub near_double_right : (a m r : Tree A) → Avl a → Avl m → Avl r → height m ≡ suc (height r) → height a ≡ height r → Near (suc (height m)) (double_right a m r)
  unfolding double_right
  near_double_right a (leaf x) r pa pm pr e f = absurd (omega arith)
  near_double_right a (node b c) r pa (avl_node pb pc hb hc) pr e f =
      record {
        avl = avl_node (avl_node pa pb (omega arith) (omega arith)) (avl_node pc pr (omega arith) (omega arith)) (omega arith) (omega arith);
        low =
            omega arith;
        high = omega arith;
      }

  -- ---- balance

  pub height_balance_level : (l r : Tree A) → height l ≤ suc (height r) → height r ≤ suc (height l) → height (balance l r) ≡ suc (max (height l) (height r))
  height_balance_level l r hl hr = ap height (balance_level l r hl hr)

  -- ---- join

  -- ---- parts

  abbrev pub AvlP : Part A → Type 0
  AvlP none = Unit {0}
  AvlP (some t) = Avl t

  pub record NearP (h : ℕ) (p : Part A) : Type 0 where
    pub avl : AvlP p
    pub low : h ≤ part_height p
    pub high : part_height p ≤ suc h
