-- A cut where the test turns: the leaves in front of it and behind it, and the height and balance of both parts.
use Rattle.std.specs.Prelude.{◌≡◌, Bool, ℕ, zero, ◌≤◌}
use Rattle.std.proofs.Math.Path.{refl, subst}
use Rattle.std.proofs.Common.{sym, ◌∙◌, T_not}
use Rattle.std.proofs.Math.Logic.{⊎_elim}
use Rattle.std.proofs.Math.Bool.{not}
use Rattle.std.proofs.Math.Option.{none, some}
use mathlib.Core.List.{List, [], ◌∷◌, ◌++◌, append_assoc, Memᴰ}
use native.Mathlib.Omega.{arith}
use Rattle.std.proofs.Math.Dec.{T, not_T}
use Rattle.lists.specs.Bools.{cond_both}
use Rattle.trees.specs.Tree.{Tree, leaf, node, height, leaves, last, Avl, avl_leaf, avl_node}
use Rattle.trees.specs.Operations.{Part, Cut, part_leaves, part_height, join_p, split, split_p}
use Rattle.trees.specs.Leaves.{last_leaf}
use Rattle.trees.specs.Balanced.{AvlP}
use Rattle.trees.specs.Order.{Turning, All, None, all_one, all_append, halves_turning, parted, up_to_last, one_cut}

module _ {A : Type 0} where
  -- the leaves of both parts, one behind the other
  abbrev pub cut_leaves : Cut A → List A
  cut_leaves c = part_leaves c.front ++ part_leaves c.back

  -- where the test turns, all in front pass and none behind
  pub record Clean (test : A → Bool) (c : Cut A) : Type 0 where
    pub passing : All test (part_leaves c.front)
    pub failing : None test (part_leaves c.back)

  -- the two parts of a list that is written as its passing and its failing half
  pub record Halves (c : Cut A) (xs ys : List A) : Type 0 where
    pub before : part_leaves c.front ≡ xs
    pub after : part_leaves c.back ≡ ys

  -- ---- balance

  -- both parts are balanced and no higher than the tree
  pub record Low (h : ℕ) (c : Cut A) : Type 0 where
    pub front_avl : AvlP c.front
    pub back_avl : AvlP c.back
    pub front_low : part_height c.front ≤ h
    pub back_low : part_height c.back ≤ h
    -- ---- of a tree that may be empty
