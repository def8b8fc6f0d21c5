-- The tree of an index as any tree in words. Its slots hold their keys, so that keys that fall have slots apart.
use Rattle.std.specs.Prelude.{true, ◌≡◌, ℕ, ◌≤◌, T, ℤ}
use Rattle.std.proofs.Common.{sym, ◌∙◌, ap, arith}
use Rattle.std.proofs.Math.Logic.{∥∥₁_elim}
use mathlib.Core.List.Pairwise
use mathlib.Core.List.{List, ◌++◌, Memᴰ}
use Rattle.std.proofs.Math.Option.{none, some}
use Rattle.std.specs.Int.Signed.{lt_z}
use Rattle.lists.specs.Members.{Among}
use Rattle.integers.specs.Parts.{int_rules}
use Rattle.trees.specs.Operations.{Part, part_leaves, part_height, join_p}
use Rattle.trees.specs.Balanced.{AvlP}
use Rattle.trees.specs.Order.{Falling}
use Rattle.table.specs.Fields.{most_levels, rank_field}
use Rattle.table.specs.Words.{Words}
use Rattle.table.specs.Layout.{cap, cell}
use Rattle.table.specs.Items.{Item, In, at, Slots, Apart}
use Rattle.table.specs.Rep.{Within, within_cap, Only}
use Rattle.table.specs.PartTrees.{RepP, rep_some, MadeP, Seam, low}
use Rattle.table.specs.Keys.{Keyed}
use Rattle.table.specs.Threads.{Holds, holds_still, only_offer, field_high}
use Rattle.shape.specs.JoinSteps.{Merged}
use Rattle.descents.specs.Ends.{Ended}
use Rattle.index.specs.Index.{Index, IndexAt}

-- ---- lists of items

pub among_in : {xs ys : List Item} → Among xs ys → (s : ℕ) → In s xs → In s ys
among_in f s (at m e) = at (f _ m) e

pub among_holds : {w : Words} {xs ys : List Item} → Among xs ys → Holds w ys → Holds w xs
among_holds f h = record { held = λ {a} m. h.held (f a m) }

pub among_keyed : {w : Words} {f : ℕ} {key : Item → ℤ} {xs ys : List Item} → Among xs ys → Keyed w f key ys → Keyed w f key xs
among_keyed i h = record { read = λ {a} m. h.read (i a m) }

-- a tree's nodes are in other fields than keys
pub keyed_still : {w w' : Words} {tree field : ℕ} {key : Item → ℤ} {xs ys : List Item} → field ≤ rank_field → Only tree xs w w' → Keyed w field key ys →
    Keyed w' field key ys
keyed_still {field} low o h = record { read = λ {a} m. o.cells field a.slot (λ q. omega (arith, low, field_high q.0)) ∙ h.read m }

-- items with falling keys, each in the slot that holds its key, are in slots apart
pub falling_slots : {w : Words} {c field : ℕ} {key : Item → ℤ} {xs ys : List Item} → Among xs ys → Slots c ys → Keyed w field key xs → Falling key xs →
    Slots c xs
falling_slots {w} {c} {field} {key} {xs} f s h p =
    record { low = λ {a} m. s.low (f a m); high = λ {a} m. s.high (f a m); apart = Pairwise.imp_of_mem apart p }
  where
    differ : {k l : ℤ} → T (lt_z l k) → k ≡ l → ⊥
    differ t e = omega (arith, int_rules)

    apart : (a b : Item) → ∥ Memᴰ a xs ∥₁ → ∥ Memᴰ b xs ∥₁ → T (lt_z (key b) (key a)) → Apart a b
    apart a b m n t e = ∥∥₁_elim m (λ p q. absurd p) (λ i. ∥∥₁_elim n (λ p q. absurd p)
        (λ j. differ t (sym (h.read i) ∙ ap (cell w field) e ∙ h.read j)))

-- ---- the tree

module _ {w : Words} {tree field root : ℕ} {key : Item → ℤ} {live : List Item} (p : Part Item) (n : IndexAt w tree field key root live p) where
  pub leaves_keyed : Keyed w field key (part_leaves p)
  leaves_keyed = among_keyed n.index_in.all_live n.keyed

  pub index_rep : RepP w tree root p
  index_rep =
      record {
        kind = n.index.kind;
        root = n.root_is;
        slots = falling_slots n.index_in.all_live n.slots leaves_keyed n.index_in.falling;
        tied = n.index_in.tied;
      }

-- a balanced tree in a table is low
pub part_low : (w : Words) (p : Part Item) → Slots (cap w) (part_leaves p) → AvlP p → part_height p ≤ most_levels
part_low w none s a = omega arith
part_low w (some t) s a = low w s a

-- a tree that was made of other live items
pub index_made :
    {w w' : Words} {tree field root : ℕ} {key : Item → ℤ} {xs live : List Item} {q : Part Item} →
    Index tree field key →
    RepP w' tree root q →
    Within w w' →
    Only tree xs w w' →
    Slots (cap w) live →
    Holds w live →
    Keyed w field key live →
    AvlP q →
    Falling key (part_leaves q) →
    Among (part_leaves q) live →
    Among live (part_leaves q) →
    IndexAt w' tree field key root live q
index_made x r g o s h k a f i j =
    record {
      index = x;
      root_is = r.root;
      slots = rw (within_cap g) s;
      holds = holds_still h (λ s i. only_offer o s);
      keyed = keyed_still x.low o k;
      index_in = record { tied = r.tied; balanced = a; falling = f; all_live = i; all_there = j };
    }

-- ---- two of them side by side

-- the seam is at the end of the left one
pub seam_end : {w : Words} {tree x g : ℕ} (p q : Part Item) → Ended w tree true x g → RepP w tree x p → AvlP p → Seam g p q
seam_end none q e r a = tt
seam_end (some t) none e r a = tt
seam_end (some t) (some u) e r a = e.is t (rep_some r) a

pub record Beside (w : Words) (tree x y : ℕ) (p q : Part Item) : Type 0 where
  pub left : RepP w tree x p
  pub right : RepP w tree y q
  pub slots : Slots (cap w) (part_leaves p ++ part_leaves q)
  pub balanced_left : AvlP p
  pub balanced_right : AvlP q

pub joined : {w w' : Words} {tree g x y z : ℕ} {p q : Part Item} → Merged tree g x y w w' z → Seam g p q → Beside w tree x y p q →
    MadeP tree w w' z (join_p p q)
joined {p} {q} j s b =
    j.made p q (record {
      kind = b.left.kind;
      left = b.left.root;
      right = b.right.root;
      slots = b.slots;
      tied_left = b.left.tied;
      tied_right =
          b.right.tied;
    }) s
    b.balanced_left b.balanced_right
