-- Every second level of a balanced tree doubles its leaves, so a tree of n leaves is at most 2 × log_up(n) high.
use Rattle.std.proofs.Math.Option.{none, some}
use Rattle.std.specs.Prelude.{ℕ, zero, suc, ◌*◌, ◌^◌, ◌≤◌, length}
use Rattle.std.proofs.Math.Nat.{two-pow-succ}
use Rattle.std.proofs.Math.Decide.{dec_le}
use Rattle.std.proofs.Common.{arith, length-append, pow_pos}
use Rattle.integers.specs.Log.{log_up, log_up_covers, log_up_full}
use Rattle.trees.specs.Tree.{Tree, height, leaves, Avl, avl_leaf, avl_node}
use Rattle.trees.specs.Operations.{Part, part_leaves, part_height}
use Rattle.trees.specs.Leaves.{some_leaf}
use Rattle.trees.specs.Balanced.{AvlP}

module _ {A : Type 0} where
  -- 2 ^ ⌈height / 2⌉ leaves at least
  pub many_leaves : (j : ℕ) {t : Tree A} → Avl t → 2 * j ≤ suc (height t) → 2 ^ j ≤ length (leaves t)
  many_leaves zero {t} p h = some_leaf t
  many_leaves (suc j) avl_leaf h = absurd (omega arith)
  many_leaves (suc j) (avl_node {l} {r} pl pr hl hr) h =
      omega (arith, length-append (leaves l) (leaves r), two-pow-succ j, many_leaves j pl (omega arith), many_leaves j pr (omega arith))

  pub log_height : {t : Tree A} → Avl t → height t ≤ 2 * log_up (length (leaves t))
  log_height {t} p = go (dec_le (height t) (2 * n))
    where
      n : ℕ
      n = log_up (length (leaves t))

      go : Dec (height t ≤ 2 * n) → height t ≤ 2 * n
      go (yes d) = d
      go (no d) = absurd (omega (arith, many_leaves (suc n) p (omega arith), log_up_covers (length (leaves t)), two-pow-succ n, pow_pos n))

  pub log_height_p : (p : Part A) → AvlP p → part_height p ≤ 2 * log_up (length (part_leaves p))
  log_height_p none a = omega arith
  log_height_p (some t) a = log_height a

  -- of a full table
  pub height_full : {t : Tree A} → Avl t → length (leaves t) ≤ 4_096 → height t ≤ 24
  height_full p h = omega (arith, log_height p, log_up_full h)
