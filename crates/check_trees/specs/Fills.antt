-- A tree's leaves written into a scratch array, in order: what the walk promises, and the ways through its code.
use Rattle.std.specs.Prelude.{◌≡◌, refl, Option, None, Some, IfSome, IsSome, List, ℕ, suc, ◌+◌, ◌-◌, ◌≤◌, ◌<◌, max, length, get_or, set}
use Rattle.std.proofs.Common.{sym, ◌∙◌, subst, arith, length-set, get_or-set_same, get_or-set_other}
use mathlib.Core.List.Memᴰ
use Rattle.trees.specs.Tree.{Tree, leaf, node, height, leaves, avl_leaf}
use Rattle.trees.specs.Leaves.{some_leaf}
use Rattle.table.specs.Fields.{most_nodes, most_slots}
use Rattle.table.specs.Words.{Words}
use Rattle.table.specs.Layout.{cap}
use Rattle.table.specs.Items.{Item}
use Rattle.table.specs.Rep.{height_at, height_at_most, tied_leaf}
use Rattle.check_trees.specs.Scratch.{scratch_length}
use Rattle.check_trees.specs.declared.Filled.{Filled}
use Rattle.check_trees.specs.Stretches.{span, span_one}
use Rattle.check_trees.specs.Laid.{item_at, slots_of, Placed, placed_at, Laid, laid_node_high}

-- the tree at node x, its leaves' slots between the places a and b
pub record Written (w : Words) (k x : ℕ) (xs : List ℕ) (a b h : ℕ) : Type 0 where
  pub tree : Tree Item
  pub laid : Laid w k x tree
  pub slots : span xs a b ≡ slots_of (leaves tree)
  pub tall : height tree ≡ h

-- a walk from node x went through, and wrote its tree from place `at` on
pub record Wrote (w : Words) (k x : ℕ) (xs : List ℕ) (at : ℕ) (f : Filled) : Type 0 where
  pub low : f.height ≤ most_nodes
  pub inside : (at < f.next) × (f.next ≤ scratch_length)
  pub written : Written w k x xs at f.next f.height

-- The walk from node x of tree k writes from place `at` on. It succeeds exactly where a tree is laid out there that fits in.
pub record Fills (w : Words) (k x limit : ℕ) (xs xs' : List ℕ) (at : ℕ) (r : Option Filled) : Type 0 where
  pub long : length xs' ≡ length xs
  pub same : (i : ℕ) → i < at → get_or xs' i 0 ≡ get_or xs i 0
  pub sound : IfSome r (Wrote w k x xs' at)
  pub complete : (t : Tree Item) → Laid w k x t → height t ≤ limit → at + length (leaves t) ≤ scratch_length → IsSome r

-- ---- no tree

-- there is none that fits in
pub record NoTree (w : Words) (k x limit at : ℕ) : Type 0 where
  pub refuted : (t : Tree Item) → Laid w k x t → height t ≤ limit → at + length (leaves t) ≤ scratch_length → ⊥

pub fills_not : {w : Words} {k x limit at : ℕ} {xs xs' : List ℕ} → length xs' ≡ length xs → ((i : ℕ) → i < at → get_or xs' i 0 ≡ get_or xs i 0) →
    NoTree w k x limit at → Fills w k x limit xs xs' at None
fills_not n s f = record { long = n; same = s; sound = tt; complete = λ t p h m. absurd (f.refuted t p h m) }

pub fills_none : {w : Words} {k x limit at : ℕ} {xs : List ℕ} → NoTree w k x limit at → Fills w k x limit xs xs at None
fills_none f = fills_not refl (λ i h. refl) f

-- ---- a leaf

module _ {w : Words} {x at : ℕ} (leafy : x ≤ most_slots) where
  leaf_none : x < 1 → (k limit : ℕ) → NoTree w k x limit at
  leaf_none h k limit = record { refuted = go }
    where
      go : (t : Tree Item) → Laid w k x t → height t ≤ limit → at + length (leaves t) ≤ scratch_length → ⊥
      go (leaf a) p q m = omega (arith, p.root, (p.placed a (Memᴰ.head refl)).low)
      go (node l r) p q m = omega (arith, laid_node_high p)

  leaf_far : {c : ℕ} → c ≡ cap w → c < x → (k limit : ℕ) → NoTree w k x limit at
  leaf_far e h k limit = record { refuted = go }
    where
      go : (t : Tree Item) → Laid w k x t → height t ≤ limit → at + length (leaves t) ≤ scratch_length → ⊥
      go (leaf a) p q m = omega (arith, p.root, (p.placed a (Memᴰ.head refl)).high)
      go (node l r) p q m = omega (arith, laid_node_high p)

  pub fills_leaf_none : {xs : List ℕ} → x < 1 → (k limit : ℕ) → Fills w k x limit xs xs at None
  fills_leaf_none h k limit = fills_none (leaf_none h k limit)

  pub fills_leaf_far : {c : ℕ} {xs : List ℕ} → c ≡ cap w → c < x → (k limit : ℕ) → Fills w k x limit xs xs at None
  fills_leaf_far e h k limit = fills_none (leaf_far e h k limit)

  pub fills_leaf_full : {xs : List ℕ} → scratch_length ≤ at → (k limit : ℕ) → Fills w k x limit xs xs at None
  fills_leaf_full h k limit = fills_none (record { refuted = λ t p q m. omega (arith, some_leaf t) })

  pub fills_leaf : {c : ℕ} {xs : List ℕ} → length xs ≡ scratch_length → 1 ≤ x → c ≡ cap w → x ≤ c → at < scratch_length → (k limit : ℕ) →
      Fills w k x limit xs (set xs at x) at (Some (record { next = at + 1; height = 0 }))
  fills_leaf {c} {xs} n l e h m k limit =
      record {
        long = length-set xs at x;
        same = λ i d. get_or-set_other xs at i x 0 (omega arith);
        sound = record {
          low = omega arith;
          inside = omega arith;
          written = record {
            tree = leaf (item_at w x);
            laid = record {
              root = refl;
              placed = λ a i. subst (Placed w) (sym (Memᴰ.eq_of_singleton i)) (placed_at l (omega arith));
              tied = tied_leaf;
              balanced = avl_leaf;
            };
            slots = let p : at + 1 ≡ suc at = omega arith in rw (p, span_one (set xs at x) at, get_or-set_same xs at x 0 (omega arith));
            tall = refl;
          };
        };
        complete = λ t p q j. refl;
      }

-- ---- a node over two trees

-- node x, kept in slot s, stands over trees of heights m and n
pub record Levelled (w : Words) (k x s m n : ℕ) : Type 0 where
  pub seam : s ≡ x - most_slots
  pub left : m ≤ suc n
  pub right : n ≤ suc m
  pub stored : height_at w k x ≡ suc (max m n)

-- both walks went through
pub record Ended (a b : Filled) : Type 0 where
  pub some : 1 ≤ a.next
  pub most : a.next ≤ most_nodes
  pub left : a.height ≤ most_nodes
  pub right : b.height ≤ most_nodes

-- node x stands over both trees
pub record Covered (w : Words) (k x : ℕ) (xs : List ℕ) (a b f : Filled) : Type 0 where
  pub low : f.height ≤ most_nodes
  pub level : Levelled w k x (get_or xs (a.next - 1) 0) a.height b.height
  pub next : f.next ≡ b.next
  pub tall : f.height ≡ suc (max a.height b.height)

pub record Covers (w : Words) (k x : ℕ) (xs : List ℕ) (a b : Filled) (r : Option Filled) : Type 0 where
  pub sound : IfSome r (Covered w k x xs a b)
  pub complete : Levelled w k x (get_or xs (a.next - 1) 0) a.height b.height → IsSome r

pub covers : {w : Words} {k x s h n : ℕ} {xs : List ℕ} {a b : Filled} → s ≡ x - most_slots → get_or xs (a.next - 1) 0 ≡ s → a.height ≤ b.height + 1 →
    b.height ≤ a.height + 1 → h ≡ height_at w k x → n ≡ suc (max a.height b.height) → h ≡ n →
    Covers w k x xs a b (Some (record { next = b.next; height = h }))
covers {w} {k} {x} es e l r eh en d =
    record {
      sound = record {
        low = omega (arith, height_at_most w k x);
        level = record { seam = e ∙ es; left = omega arith; right = omega arith; stored = sym eh ∙ d ∙ en };
        next = refl;
        tall = d ∙ en;
      };
      complete = λ p. refl;
    }

pub fills_as : {w : Words} {k x y limit at : ℕ} {xs xs' : List ℕ} {r : Option Filled} → y ≡ x → Fills w k y limit xs xs' at r → Fills w k x limit xs xs' at r
fills_as {w} {k} {x} {y} {limit} {at} {xs} {xs'} {r} e f = subst (λ (z : ℕ). Fills w k z limit xs xs' at r) e f
