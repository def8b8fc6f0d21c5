-- The mirror image of what the operations make is what their mirror images make. So a left case is the right one.
use Rattle.std.specs.Prelude.{◌≡◌, Bool, cond, suc, T, leb}
use Rattle.std.proofs.Math.Path.{refl}
use Rattle.std.proofs.Common.{sym, ap, ◌∙◌, arith, ltb→lt}
use Rattle.std.proofs.Math.Nat.{max_comm}
use Rattle.lists.specs.Bools.{cond_map, cond_swap}
use Rattle.trees.specs.Tree.{Tree, leaf, node, height, mirror, Avl, avl_leaf, avl_node}
use Rattle.trees.specs.Operations.{towers, double_right, double_left, rotate_right, rotate_left, balance, join_r, join_l, join}

module _ {A : Type 0} where
  pub mirror_mirror : (t : Tree A) → mirror (mirror t) ≡ t
  mirror_mirror (leaf a) = refl
  mirror_mirror (node l r) = simp (mirror_mirror l, mirror_mirror r)

  pub mirror_injective : (s t : Tree A) → mirror s ≡ mirror t → s ≡ t
  mirror_injective s t e = sym (mirror_mirror s) ∙ ap mirror e ∙ mirror_mirror t

  pub height_mirror : (t : Tree A) → height (mirror t) ≡ height t
  height_mirror (leaf a) = refl
  height_mirror (node l r) = simp (height_mirror l, height_mirror r) (ap suc (max_comm (height r) (height l)))

  pub avl_mirror : {t : Tree A} → Avl t → Avl (mirror t)
  avl_mirror avl_leaf = avl_leaf
  avl_mirror (avl_node {l} {r} pl pr hl hr) = avl_node (avl_mirror pr) (avl_mirror pl) (simp height_mirror hr) (simp height_mirror hl)

  pub avl_unmirror : (t : Tree A) → Avl (mirror t) → Avl t
  avl_unmirror t p = rw mirror_mirror at (avl_mirror p)

  pub towers_apart : (l r : Tree A) → T (towers l r) → T (towers r l) → ⊥
  towers_apart l r p q = omega (arith, ltb→lt)

  pub mirror_cond : (b : Bool) (x y : Tree A) → mirror (cond b x y) ≡ cond b (mirror x) (mirror y)
  mirror_cond b x y = cond_map mirror b x y

  -- if g is the mirror image of f, then f is that of g
  pub turned : (f g : Tree A → Tree A → Tree A) → ((l r : Tree A) → mirror (f l r) ≡ g (mirror r) (mirror l)) → (l r : Tree A) →
      mirror (g l r) ≡ f (mirror r) (mirror l)
  turned f g e l r =
      let back : mirror (f (mirror r) (mirror l)) ≡ g l r = simp (e, mirror_mirror) in
      sym (ap mirror back) ∙ mirror_mirror (f (mirror r) (mirror l))

  leb_mirror : (s t : Tree A) → leb (height (mirror s)) (height (mirror t)) ≡ leb (height s) (height t)
  leb_mirror s t = simp height_mirror

  pub towers_mirror : (s t : Tree A) → towers (mirror s) (mirror t) ≡ towers s t
  towers_mirror s t = simp height_mirror

  pub mirror_rotate_right : (l r : Tree A) → mirror (rotate_right l r) ≡ rotate_left (mirror r) (mirror l)
  unfolding rotate_right rotate_left double_right double_left
  mirror_rotate_right (leaf x) r = refl
  mirror_rotate_right (node a (leaf x)) r = simp mirror_cond (rw (leb_mirror (leaf x) a))
  mirror_rotate_right (node a (node b c)) r = simp mirror_cond (rw (leb_mirror (node b c) a))
