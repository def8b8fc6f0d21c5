-- The leaves of what the operations make: none is lost, doubled or moved.
use Rattle.std.specs.Prelude.{◌≡◌, ◌≤◌, leb, length}
use Rattle.std.proofs.Math.Path.{refl, sym, ap}
use Rattle.std.proofs.Common.{◌∙◌, arith}
use mathlib.Core.List.Memᴰ
use mathlib.Core.List.{List, [], ◌∷◌, ◌++◌, append_assoc, append-nil, reverse, reverse-append, head-eq_of_cons-eq, Memᴰ}
use Rattle.std.proofs.Math.Option.{none, some}
use Rattle.lists.specs.Bools.{cond_both}
use Rattle.trees.specs.Tree.{Tree, leaf, node, height, leaves, first, last, mirror}
use Rattle.trees.specs.Operations.{Part, towers, double_right, double_left, rotate_right, rotate_left, balance, join_r, join_l, join, part_leaves, join_p}
use Rattle.trees.specs.ByHeights.{by_heights}

module _ {A : Type 0} where
  pub leaves_double_right : (a m r : Tree A) → leaves (double_right a m r) ≡ leaves a ++ (leaves m ++ leaves r)
  unfolding double_right
  leaves_double_right a (leaf x) r = refl
  leaves_double_right a (node b c) r = simp append_assoc

  leaves_double_left : (l m d : Tree A) → leaves (double_left l m d) ≡ leaves l ++ (leaves m ++ leaves d)
  unfolding double_left
  leaves_double_left l (leaf x) d = append_assoc (leaves l) _ _
  leaves_double_left l (node b c) d = simp append_assoc

  pub leaves_rotate_left : (l r : Tree A) → leaves (rotate_left l r) ≡ leaves l ++ leaves r
  unfolding rotate_left
  leaves_rotate_left l (leaf x) = refl
  leaves_rotate_left l (node m d) =
      cond_both (λ t. leaves t ≡ leaves l ++ (leaves m ++ leaves d)) (leb (height m) (height d)) (λ t. simp append_assoc) (λ t. leaves_double_left l m d)

  -- ---- the two ends

  -- all leaves but the first; all but the last
  unfoldable pub rest : Tree A → List A
  rest (leaf a) = []
  rest (node l r) = rest l ++ leaves r

  unfoldable pub start : Tree A → List A
  start (leaf a) = []
  start (node l r) = leaves l ++ start r

  pub leaves_first : (t : Tree A) → leaves t ≡ first t ∷ rest t
  unfolding rest
  leaves_first (leaf a) = refl
  leaves_first (node l r) = ap (λ xs. xs ++ leaves r) (leaves_first l)

  pub leaves_last : (t : Tree A) → leaves t ≡ start t ++ (last t ∷ [])
  unfolding start
  leaves_last (leaf a) = refl
  leaves_last (node l r) = ap (λ xs. leaves l ++ xs) (leaves_last r) ∙ sym (append_assoc (leaves l) (start r) _)

  pub some_leaf : (t : Tree A) → 1 ≤ length (leaves t)
  some_leaf t = omega (arith, ap length (leaves_first t))

  pub first_leaf : (t : Tree A) → Memᴰ (first t) (leaves t)
  first_leaf (leaf a) = Memᴰ.head refl
  first_leaf (node l r) = Memᴰ.append_left (leaves r) (first_leaf l)

  pub last_leaf : (t : Tree A) → Memᴰ (last t) (leaves t)
  last_leaf (leaf a) = Memᴰ.head refl
  last_leaf (node l r) = Memᴰ.append_right (leaves l) (last_leaf r)

  -- ---- the mirror image

  pub leaves_mirror : (t : Tree A) → leaves (mirror t) ≡ reverse (leaves t)
  leaves_mirror (leaf a) = refl
  leaves_mirror (node l r) = simp (leaves_mirror l, leaves_mirror r, reverse-append)

  pub first_mirror : (t : Tree A) → first (mirror t) ≡ last t
  first_mirror (leaf a) = refl
  first_mirror (node l r) = first_mirror r

  -- ---- the leaves tell the ends

  pub same_first : (s t : Tree A) → leaves s ≡ leaves t → first s ≡ first t
  same_first s t e = head-eq_of_cons-eq (sym (leaves_first s) ∙ e ∙ leaves_first t)

  pub same_last : (s t : Tree A) → leaves s ≡ leaves t → last s ≡ last t
  same_last s t e =
      sym (first_mirror s) ∙ same_first (mirror s) (mirror t) (leaves_mirror s ∙ ap reverse e ∙ sym (leaves_mirror t)) ∙ first_mirror t
