-- The walk over a tree that writes its leaves' slots into a scratch array: the ways through its code.
use Rattle.std.specs.Prelude.{◌≡◌, refl, true, false, Option, None, Some, IfSome, IsSome, List, [], ◌∷◌, ◌++◌, ℕ, suc, ◌+◌, ◌-◌, ◌≤◌, ◌<◌, max, length, get_or}
use Rattle.std.proofs.Common.{sym, ◌∙◌, ap, ap₂, arith, length-append}
use Rattle.std.proofs.lemmas.List.{get_or_at}
use Rattle.lists.specs.Bools.{never}
use Rattle.trees.specs.Tree.{Tree, leaf, node, height, leaves, last}
use Rattle.trees.specs.Leaves.{some_leaf, leaves_last, start}
use Rattle.table.specs.Fields.{most_nodes, most_slots}
use Rattle.table.specs.Words.{Words}
use Rattle.table.specs.Items.{Item}
use Rattle.table.specs.Rep.{child_at}
use Rattle.check_trees.specs.Scratch.{scratch_length}
use Rattle.check_trees.specs.declared.Filled.{Filled}
use Rattle.check_trees.specs.Stretches.{span_cut, span_same, span_length, span_at}
use Rattle.check_trees.specs.Laid.{slots_of, slots_append, slots_length, Laid, laid_leaf_low, laid_children, laid_node, laid_unique}
use Rattle.check_trees.specs.Fills.{Written, Wrote, Fills, fills_not, fills_none, Levelled, Ended, Covered, Covers}

-- ---- what was written

slots_last : (t : Tree Item) → get_or (slots_of (leaves t)) (length (leaves t) - 1) 0 ≡ (last t).slot
slots_last t =
    ap (λ (zs : List ℕ). get_or zs (length (leaves t) - 1) 0) (ap slots_of (leaves_last t) ∙ slots_append (start t) (last t ∷ []))
    ∙ get_or_at (slots_of (start t)) (last t).slot [] 0 (length (leaves t) - 1) (slots_length (start t)
    ∙ omega (arith, ap length (leaves_last t), length-append (start t) (last t ∷ [])))

module _ {w : Words} {k x a b h : ℕ} {xs : List ℕ} (g : Written w k x xs a b h) where
  pub written_length : b - a ≡ length (leaves g.tree)
  written_length = sym (span_length xs a b) ∙ ap length g.slots ∙ slots_length (leaves g.tree)

  pub written_last : get_or xs (b - 1) 0 ≡ (last g.tree).slot
  written_last =
      let p : b - 1 ≡ a + (b - a - 1) = omega (arith, written_length, some_leaf g.tree) in
      let q : b - a - 1 ≡ length (leaves g.tree) - 1 = omega (arith, written_length) in
      ap (λ (i : ℕ). get_or xs i 0) p ∙ sym (span_at xs a b (b - a - 1) 0 (omega (arith, written_length, some_leaf g.tree)))
      ∙ ap₂ (λ (zs : List ℕ) (i : ℕ). get_or zs i 0) g.slots q ∙ slots_last g.tree

-- ---- limit used up

pub fills_deep : {w : Words} {k x limit at : ℕ} {xs : List ℕ} → most_slots < x → limit ≡ 0 → Fills w k x limit xs xs at None
fills_deep {w} {k} {x} {limit} {at} d e = fills_none (record { refuted = go })
  where
    go : (t : Tree Item) → Laid w k x t → height t ≤ limit → at + length (leaves t) ≤ scratch_length → ⊥
    go (leaf a) p q m = omega (arith, laid_leaf_low p)
    go (node l r) p q m = omega arith

-- ---- the two children

module _ {w : Words} {k x limit at : ℕ} {xs xs₁ : List ℕ} (d : most_slots < x) (more : limit ≡ 0 → ⊥) where
  pub fills_left_not : Fills w k (child_at w k false x) (limit - 1) xs xs₁ at None → Fills w k x limit xs xs₁ at None
  fills_left_not A = fills_not A.long A.same (record { refuted = go })
    where
      go : (t : Tree Item) → Laid w k x t → height t ≤ limit → at + length (leaves t) ≤ scratch_length → ⊥
      go (leaf b) p q m = omega (arith, laid_leaf_low p)
      go (node l r) p q m = never (A.complete l (laid_children p).left (omega arith) (omega (arith, length-append (leaves l) (leaves r)))) refl

  module _ {a : Filled} (A : Fills w k (child_at w k false x) (limit - 1) xs xs₁ at (Some a)) where
    -- the left tree is the one that was written
    left_is : (l : Tree Item) → Laid w k (child_at w k false x) l → A.sound.written.tree ≡ l
    left_is l p = laid_unique A.sound.written.tree l A.sound.written.laid p

    left_room : (l : Tree Item) → Laid w k (child_at w k false x) l → a.next ≡ at + length (leaves l)
    left_room l p = omega (arith, A.sound.inside, written_length A.sound.written, ap (λ (s : Tree Item). length (leaves s)) (left_is l p))

    module _ {xs₂ : List ℕ} {b : Option Filled} (B : Fills w k (child_at w k true x) (limit - 1) xs₁ xs₂ a.next b) where
      long_both : length xs₂ ≡ length xs
      long_both = B.long ∙ A.long

      same_both : (i : ℕ) → i < at → get_or xs₂ i 0 ≡ get_or xs i 0
      same_both i h = B.same i (omega (arith, A.sound.inside)) ∙ A.same i h

      right_ok : (l r : Tree Item) → Laid w k x (node l r) → height (node l r) ≤ limit → at + length (leaves l ++ leaves r) ≤ most_nodes → IsSome b
      right_ok l r p q m =
          B.complete r (laid_children p).right (omega arith) (omega (arith, length-append (leaves l) (leaves r), left_room l (laid_children p).left))

    pub fills_right_not : {xs₂ : List ℕ} → Fills w k (child_at w k true x) (limit - 1) xs₁ xs₂ a.next None → Fills w k x limit xs xs₂ at None
    fills_right_not B = fills_not (long_both B) (same_both B) (record { refuted = go })
      where
        go : (t : Tree Item) → Laid w k x t → height t ≤ limit → at + length (leaves t) ≤ scratch_length → ⊥
        go (leaf c) p q m = omega (arith, laid_leaf_low p)
        go (node l r) p q m = never (right_ok B l r p q m) refl

    module _ {xs₂ : List ℕ} {b : Filled} (B : Fills w k (child_at w k true x) (limit - 1) xs₁ xs₂ a.next (Some b)) where
      pub ended : Ended a b
      ended = record { some = omega (arith, A.sound.inside); most = A.sound.inside.1; left = A.sound.low; right = B.sound.low }

      abbrev L : Tree Item
      L = A.sound.written.tree

      abbrev R : Tree Item
      R = B.sound.written.tree

      last_at : get_or xs₂ (a.next - 1) 0 ≡ (last L).slot
      last_at = B.same (a.next - 1) (omega (arith, A.sound.inside)) ∙ written_last A.sound.written

      written_both : {f : Filled} → Covered w k x xs₂ a b f → Written w k x xs₂ at f.next f.height
      written_both {f} C =
          record {
            tree = node L R;
            laid =
                laid_node A.sound.written.laid B.sound.written.laid (sym C.level.seam ∙ last_at) d
                (C.level.stored ∙ ap₂ (λ (m n : ℕ). suc (max m n)) (sym A.sound.written.tall) (sym B.sound.written.tall))
                (omega (arith, C.level.left, A.sound.written.tall, B.sound.written.tall))
                (omega (arith, C.level.right, A.sound.written.tall, B.sound.written.tall));
            slots =
                rw C.next (span_cut xs₂ at a.next b.next (omega (arith, A.sound.inside)) (omega (arith, B.sound.inside)))
                ∙ ap₂ ◌++◌ (span_same xs₂ xs₁ at a.next (λ i h j. B.same i j) ∙ A.sound.written.slots) B.sound.written.slots
                ∙ sym (slots_append (leaves L) (leaves R));
            tall = ap₂ (λ (m n : ℕ). suc (max m n)) A.sound.written.tall B.sound.written.tall ∙ sym C.tall;
          }

      levelled : (l r : Tree Item) → Laid w k x (node l r) → Levelled w k x (get_or xs₂ (a.next - 1) 0) a.height b.height
      levelled l r p =
          let c = laid_children p in
          let el : L ≡ l = left_is l c.left in
          let er : R ≡ r = laid_unique R r B.sound.written.laid c.right in
          let hl : height l ≡ a.height = sym (ap height el) ∙ A.sound.written.tall in
          let hr : height r ≡ b.height = sym (ap height er) ∙ B.sound.written.tall in
          record {
            seam = last_at ∙ ap (λ (s : Tree Item). (last s).slot) el ∙ sym c.seam;
            left = omega (arith, c.level);
            right = omega (arith, c.level');
            stored = c.stored ∙ ap₂ (λ (m n : ℕ). suc (max m n)) hl hr;
          }

      wrote_both : (r : Option Filled) → IfSome r (Covered w k x xs₂ a b) → IfSome r (Wrote w k x xs₂ at)
      wrote_both None c = tt
      wrote_both (Some f) c =
          record { low = c.low; inside = omega (arith, A.sound.inside, B.sound.inside, c.next); written = written_both c }

      pub fills_node : {r : Option Filled} → Covers w k x xs₂ a b r → Fills w k x limit xs xs₂ at r
      fills_node {r} C = record { long = long_both B; same = same_both B; sound = wrote_both r C.sound; complete = go }
        where
          go : (s : Tree Item) → Laid w k x s → height s ≤ limit → at + length (leaves s) ≤ most_nodes → IsSome r
          go (leaf c) p q m = absurd (omega (arith, laid_leaf_low p))
          go (node l s) p q m = C.complete (levelled l s p)
