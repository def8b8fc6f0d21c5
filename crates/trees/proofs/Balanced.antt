-- Theorems on specs/Balanced.
use Rattle.std.specs.Prelude.{◌≡◌, not, leb}
use Rattle.std.proofs.Common.{ap, ltb→lt, nltb→le}
use Rattle.std.proofs.Math.Option.{none, some}
use Prim.Native.Nat.{ℕ, suc, max, ◌≤◌, ◌<◌}
use Rattle.std.proofs.Math.Nat.{max_comm}
use Rattle.std.proofs.Math.Decide.{dec_le}
use native.Mathlib.Omega.{arith}
use Rattle.std.proofs.Math.Dec.{T, leb→le, nleb→lt}
use Rattle.lists.specs.Bools.{cond_both}
use Rattle.trees.specs.Tree.{Tree, leaf, node, height, mirror, Avl, avl_node}
use Rattle.trees.specs.Operations.{Part, towers, double_right, rotate_right, rotate_left, balance, join_r, join_l, join, part_height, join_p}
use Rattle.trees.specs.ByHeights.{by_heights}
use Rattle.trees.specs.TreeSteps.{balance_level}
use Rattle.trees.specs.Mirror.{height_mirror, avl_mirror, avl_unmirror}
use Rattle.trees.proofs.Mirror.{mirror_rotate_left, mirror_join_l}
use Rattle.trees.specs.Balanced.{AvlP, Near, NearP, height_balance_level, near_double_right, near_is, near_mirror, near_node}

module _ {A : Type 0} where
  near_rotate_right : (l r : Tree A) → Avl l → Avl r → height l ≡ suc (suc (height r)) → Near (height l) (rotate_right l r)
  unfolding rotate_right
  near_rotate_right (leaf x) r pl pr e = absurd (omega arith)
  near_rotate_right (node a m) r (avl_node pa pm ha hm) pr e = cond_both (Near (height (node a m))) (leb (height m) (height a)) single double
    where
      single : T (leb (height m) (height a)) → Near (height (node a m)) (node a (node m r))
      single t =
          let le : height m ≤ height a = leb→le _ _ t in
          record { avl = avl_node pa (avl_node pm pr (omega arith) (omega arith)) (omega arith) (omega arith); low = omega arith; high = omega arith }

      double : T (not (leb (height m) (height a))) → Near (height (node a m)) (double_right a m r)
      double t =
          let lt : height a < height m = nleb→lt _ _ t in
          let same : height (node a m) ≡ suc (height m) = omega arith in
          rw same (near_double_right a m r pa pm pr (omega arith) (omega arith))

  near_rotate_left : (l r : Tree A) → Avl l → Avl r → height r ≡ suc (suc (height l)) → Near (height r) (rotate_left l r)
  near_rotate_left l r pl pr e =
      near_mirror (rotate_left l r)
      (rw (mirror_rotate_left, ← height_mirror r) (near_rotate_right (mirror r) (mirror l) (avl_mirror pr) (avl_mirror pl) (simp height_mirror e)))

  -- ---- balance
  pub near_balance : (l r : Tree A) → Avl l → Avl r → height l ≤ suc (suc (height r)) → height r ≤ suc (suc (height l)) →
      Near (max (height l) (height r)) (balance l r)
  unfolding balance
  near_balance l r pl pr hl hr =
      by_heights (Near (max (height l) (height r))) l r (λ t. near_is (near_rotate_right l r pl pr (omega arith)) (omega arith))
      (λ t. near_is (near_rotate_left l r pl pr (omega arith)) (omega arith))
      (near_node l r pl pr)

  -- ---- join
  near_join_r : (l r : Tree A) → Avl l → Avl r → height r ≤ suc (height l) → Near (max (height l) (height r)) (join_r l r)
  unfolding join_r
  near_join_r (leaf x) r pl pr h = near_node (leaf x) r pl pr (omega arith) h
  near_join_r (node a b) r (avl_node pa pb ha hb) pr h =
      cond_both (Near (max (height (node a b)) (height r))) (towers (node a b) r) (λ t. climb (ltb→lt _ _ t) (near_join_r b r pb pr (omega (arith, ltb→lt))))
      (λ t. near_node (node a b) r (avl_node pa pb ha hb) pr (nltb→le _ _ t) h)
    where
      climb : suc (height r) < height (node a b) → Near (max (height b) (height r)) (join_r b r) →
          Near (max (height (node a b)) (height r)) (balance a (join_r b r))
      climb tall n = go (dec_le (height (join_r b r)) (suc (height a))) (near_balance a (join_r b r) pa n.avl (omega arith) (omega arith))
        where
          go : Dec (height (join_r b r) ≤ suc (height a)) → Near (max (height a) (height (join_r b r))) (balance a (join_r b r)) →
              Near (max (height (node a b)) (height r)) (balance a (join_r b r))
          go (yes le) m =
              let same = height_balance_level a (join_r b r) (omega arith) le in
              record { avl = m.avl; low = omega arith; high = omega arith }
          go (no gt) m = record { avl = m.avl; low = omega arith; high = omega arith }

  near_join_l : (l r : Tree A) → Avl l → Avl r → height l ≤ suc (height r) → Near (max (height l) (height r)) (join_l l r)
  near_join_l l r pl pr h =
      near_mirror (join_l l r)
      (rw mirror_join_l (near_is (near_join_r (mirror r) (mirror l) (avl_mirror pr) (avl_mirror pl) (simp height_mirror h))
      (simp height_mirror (max_comm (height r) (height l)))))

  pub near_join : (l r : Tree A) → Avl l → Avl r → Near (max (height l) (height r)) (join l r)
  unfolding join
  near_join l r pl pr =
      by_heights (Near (max (height l) (height r))) l r (λ t. near_join_r l r pl pr (omega arith)) (λ t. near_join_l l r pl pr (omega arith))
      (near_node l r pl pr)

  pub near_join_p : (p q : Part A) → AvlP p → AvlP q → NearP (max (part_height p) (part_height q)) (join_p p q)
  near_join_p none q a b = record { avl = b; low = omega arith; high = omega arith }
  near_join_p (some l) none a b = record { avl = a; low = omega arith; high = omega arith }
  near_join_p (some l) (some r) a b = let n = near_join l r a b in record { avl = n.avl; low = n.low; high = n.high }
