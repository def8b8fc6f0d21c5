-- The walk over the tree of offers, by a function that calls itself on both children: what it promises, and the ways through its code.
use Rattle.std.specs.Prelude.{◌≡◌, refl, true, false, Option, None, Some, IfSome, IsSome, List, [], ◌∷◌, ℕ, suc, ◌+◌, ◌-◌, ◌≤◌, ◌<◌, length, get_or, set}
use Rattle.std.proofs.Common.{sym, ◌∙◌, ap, subst, arith, length-set, length-append, get_or-set_same, get_or-set_other}
use mathlib.Core.List.Memᴰ
use Rattle.lists.specs.Members.{sub_length}
use Rattle.lists.specs.Bools.{never}
use Rattle.trees.specs.Tree.{Tree, leaf, node, height, leaves}
use Rattle.trees.specs.Leaves.{some_leaf}
use Rattle.dynamic.specs.OfferTree.{OfferTree, single, fork, shape}
use Rattle.dynamic.specs.Valid.{Valid, valid_single, valid_fork}
use Rattle.table.specs.Fields.{most_slots, offer_tree}
use Rattle.table.specs.Words.{Words}
use Rattle.table.specs.Items.{Item}
use Rattle.table.specs.Rep.{child_at}
use Rattle.pieces.specs.Pieces.{items}
use Rattle.form.specs.Stored.{Stored, stored_single, stored_fork}
use Rattle.check_trees.specs.Scratch.{scratch_length, second_half}
use Rattle.check_trees.specs.Stretches.{span, span_one, span_same, span_length}
use Rattle.check_trees.specs.Laid.{item_at, items_at, items_length, laid_leaf_low, laid_node_high}
use Rattle.check_merge.specs.Stands.{Stands, stands_left, stands_right, Decorated, decorated_env}
use Rattle.check_merge.specs.Joints.{half_left, half_right, no_leaf, joint_known, joins_fork, decorated_joins}
use Rattle.check_merge.specs.Merges.{Two, Merged, Merges}

-- the walk went through: where the shape, the offers and the order of the subtree are known, its whole envelope stands from place `at` up to n
pub record Walked (w : Words) (x : ℕ) (xs : List ℕ) (at n : ℕ) : Type 0 where
  pub inside : (at < n) × (n ≤ second_half)
  pub decorated : (t : Tree Item) → Stands w x t → Decorated w t (items_at w (span xs at n))

-- Where they are known, the walk goes through exactly where envelopes are stored with the subtree.
pub record Walks (w : Words) (x limit : ℕ) (xs xs' : List ℕ) (at : ℕ) (r : Option ℕ) : Type 0 where
  pub long : length xs' ≡ length xs
  pub same : (i : ℕ) → i < at → get_or xs' i 0 ≡ get_or xs i 0
  pub sound : IfSome r (Walked w x xs' at)
  pub complete : (t : Tree Item) → Stands w x t → height t ≤ limit → at + length (leaves t) ≤ second_half → (es : List Item) → Decorated w t es → IsSome r

pub walks_as : {w : Words} {x y limit at : ℕ} {xs xs' : List ℕ} {r : Option ℕ} → y ≡ x → Walks w y limit xs xs' at r → Walks w x limit xs xs' at r
walks_as {w} {x} {y} {limit} {at} {xs} {xs'} {r} e f = subst (λ (z : ℕ). Walks w z limit xs xs' at r) e f

-- there is none that fits in
pub record NoEnvelope (w : Words) (x limit at : ℕ) : Type 0 where
  pub refuted : (t : Tree Item) → Stands w x t → height t ≤ limit → at + length (leaves t) ≤ second_half → (es : List Item) → Decorated w t es → ⊥

pub walks_not : {w : Words} {x limit at : ℕ} {xs xs' : List ℕ} → length xs' ≡ length xs → ((i : ℕ) → i < at → get_or xs' i 0 ≡ get_or xs i 0) →
    NoEnvelope w x limit at → Walks w x limit xs xs' at None
walks_not n s f = record { long = n; same = s; sound = tt; complete = λ t p h m es d. absurd (f.refuted t p h m es d) }

-- ---- a leaf

module _ {x at : ℕ} {xs : List ℕ} (leafy : x ≤ most_slots) where
  pub walks_full : second_half ≤ at → (w : Words) (limit : ℕ) → Walks w x limit xs xs at None
  walks_full h w limit = walks_not refl (λ i k. refl) (record { refuted = λ t p q m es d. omega (arith, some_leaf t) })

  pub walks_leaf : length xs ≡ scratch_length → at < second_half → (w : Words) (limit : ℕ) → Walks w x limit xs (set xs at x) at (Some (at + 1))
  walks_leaf n h w limit =
      record {
        long = length-set xs at x;
        same = λ i k. get_or-set_other xs at i x 0 (omega arith);
        sound = record { inside = omega arith; decorated = go };
        complete = λ t p q m es d. refl;
      }
    where
      slots : items_at w (span (set xs at x) at (at + 1)) ≡ item_at w x ∷ []
      slots = let e : at + 1 ≡ suc at = omega arith in rw (e, span_one (set xs at x) at, get_or-set_same xs at x 0 (omega arith))

      go : (t : Tree Item) → Stands w x t → Decorated w t (items_at w (span (set xs at x) at (at + 1)))
      go (leaf a) p =
          let e : a ≡ item_at w x = (p.laid.placed a (Memᴰ.head refl)).is ∙ ap (item_at w) (sym p.laid.root) in
          subst (Decorated w (leaf a)) (ap (λ (b : Item). b ∷ []) e ∙ sym slots) (record {
            offers = single a;
            shape_is = refl;
            stored = stored_single;
            valid = valid_single;
          })
      go (node l r) p = absurd (omega (arith, laid_node_high p.laid))

-- ---- the limit is used up

pub walks_deep : {w : Words} {x limit at : ℕ} {xs : List ℕ} → most_slots < x → limit ≡ 0 → Walks w x limit xs xs at None
walks_deep {w} {x} {limit} {at} d e = walks_not refl (λ i k. refl) (record { refuted = go })
  where
    go : (t : Tree Item) → Stands w x t → height t ≤ limit → at + length (leaves t) ≤ second_half → (es : List Item) → Decorated w t es → ⊥
    go (leaf a) p q m es c = omega (arith, laid_leaf_low p.laid)
    go (node l r) p q m es c = omega arith

-- ---- both children

-- the children of a tree with envelopes have theirs
record Parted (w : Words) (l r : Tree Item) : Type 0 where
  left_pieces : List Item
  left : Decorated w l left_pieces
  right_pieces : List Item
  right : Decorated w r right_pieces

parted : {w : Words} {l r : Tree Item} {es : List Item} → Decorated w (node l r) es → Parted w l r
unfolding half_left half_right
parted {w} {l} {r} {es} d = go d.offers d.shape_is d.stored d.valid
  where
    go : (o : OfferTree Item) → shape o ≡ node l r → Stored w o → Valid items o es → Parted w l r
    go (single a) e st va = absurd (no_leaf e)
    go (fork u v ol ql qr or) e (stored_fork sl sr eu ev rl rr) (valid_fork up_to from ee vl vr al ar E) =
        record {
          left_pieces = _;
          left = record { offers = ol; shape_is = ap half_left e; stored = sl; valid = vl };
          right_pieces = _;
          right = record { offers = or; shape_is = ap half_right e; stored = sr; valid = vr };
        }

-- there are no more pieces than offers
pieces_most : {w : Words} {t : Tree Item} (ss : List ℕ) → Decorated w t (items_at w ss) → length ss ≤ length (leaves t)
pieces_most {w} ss d = omega (arith, sub_length (decorated_env d).sub, items_length w ss)

module _ {w : Words} {x limit at : ℕ} {xs xs₁ : List ℕ} (d : most_slots < x) (more : limit ≡ 0 → ⊥) where
  pub walks_left_not : Walks w (child_at w offer_tree false x) (limit - 1) xs xs₁ at None → Walks w x limit xs xs₁ at None
  walks_left_not A = walks_not A.long A.same (record { refuted = go })
    where
      go : (t : Tree Item) → Stands w x t → height t ≤ limit → at + length (leaves t) ≤ second_half → (es : List Item) → Decorated w t es → ⊥
      go (leaf b) p q m es c = omega (arith, laid_leaf_low p.laid)
      go (node l r) p q m es c =
          never
          (A.complete l (stands_left p) (omega arith) (omega (arith, length-append (leaves l) (leaves r))) (parted c).left_pieces (parted c).left) refl

  module _ {mid : ℕ} (A : Walks w (child_at w offer_tree false x) (limit - 1) xs xs₁ at (Some mid)) where
    same_both : (xs₂ : List ℕ) → ((i : ℕ) → i < mid → get_or xs₂ i 0 ≡ get_or xs₁ i 0) → (i : ℕ) → i < at → get_or xs₂ i 0 ≡ get_or xs i 0
    same_both xs₂ f i h = f i (omega (arith, A.sound.inside)) ∙ A.same i h

    pub walks_right_not : {xs₂ : List ℕ} → Walks w (child_at w offer_tree true x) (limit - 1) xs₁ xs₂ mid None → Walks w x limit xs xs₂ at None
    walks_right_not B = walks_not (B.long ∙ A.long) (same_both _ B.same) (record { refuted = go })
      where
        go : (t : Tree Item) → Stands w x t → height t ≤ limit → at + length (leaves t) ≤ second_half → (es : List Item) → Decorated w t es → ⊥
        go (leaf c) p q m es c' = omega (arith, laid_leaf_low p.laid)
        go (node l r) p q m es c =
            never
            (B.complete r (stands_right p) (omega arith)
            (omega (
              arith,
              length-append (leaves l) (leaves r),
              A.sound.inside,
              pieces_most (span xs₁ at mid) (A.sound.decorated l (stands_left p)),
              span_length xs₁ at mid,
            ))
            (parted c).right_pieces (parted c).right)
            refl

    module _ {xs₂ : List ℕ} {to : ℕ} (B : Walks w (child_at w offer_tree true x) (limit - 1) xs₁ xs₂ mid (Some to)) where
      pub walked_two : Two at mid to
      walked_two = record { upper = omega (arith, A.sound.inside); lower = omega (arith, B.sound.inside); room = B.sound.inside.1 }

      left_now : (l r : Tree Item) → Stands w x (node l r) → Decorated w l (items_at w (span xs₂ at mid))
      left_now l r p = subst (λ (zs : List ℕ). Decorated w l (items_at w zs)) (sym (span_same xs₂ xs₁ at mid (λ i h k. B.same i k)))
          (A.sound.decorated l (stands_left p))

      pub walks_node : {xs₃ : List ℕ} {r : Option ℕ} → Merges w x xs₂ xs₃ at mid to r → Walks w x limit xs xs₃ at r
      walks_node {xs₃} {r} M =
          record { long = M.long ∙ B.long ∙ A.long; same = λ i h. M.same i h ∙ same_both _ B.same i h; sound = through r M.sound; complete = passes }
        where
          found : {n : ℕ} → Merged w x xs₂ xs₃ at mid to n → (t : Tree Item) → Stands w x t → Decorated w t (items_at w (span xs₃ at n))
          found N (leaf c) p = absurd (omega (arith, laid_leaf_low p.laid))
          found N (node l s) p =
              let DL = left_now l s p in
              let DR = B.sound.decorated s (stands_right p) in
              let m = N.joined (joint_known xs₂ p DL DR walked_two.upper walked_two.lower) in
              subst (λ (zs : List ℕ). Decorated w (node l s) (items_at w zs)) (sym m.3) (joins_fork xs₂ p DL DR walked_two.upper walked_two.lower m.2)

          through : (r : Option ℕ) → IfSome r (Merged w x xs₂ xs₃ at mid to) → IfSome r (Walked w x xs₃ at)
          through None m = tt
          through (Some n) m = record { inside = m.inside; decorated = found m }

          passes : (t : Tree Item) → Stands w x t → height t ≤ limit → at + length (leaves t) ≤ second_half → (es : List Item) → Decorated w t es → IsSome r
          passes (leaf c) p q m es c' = absurd (omega (arith, laid_leaf_low p.laid))
          passes (node l s) p q m es c =
              let DL = left_now l s p in
              let DR = B.sound.decorated s (stands_right p) in
              let k = decorated_joins xs₂ p DL DR walked_two.upper walked_two.lower c in
              M.complete (joint_known xs₂ p DL DR walked_two.upper walked_two.lower) k.i k.j k.joins
