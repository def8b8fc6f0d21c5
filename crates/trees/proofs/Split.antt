-- Theorems on specs/Split.
use Rattle.std.specs.Prelude.{◌≡◌, Bool, ℕ, zero, ◌≤◌}
use Rattle.std.proofs.Math.Path.{refl, subst}
use Rattle.std.proofs.Common.{sym, ◌∙◌, T_not}
use Rattle.std.proofs.Math.Logic.{⊎_elim}
use Rattle.std.proofs.Math.Bool.{not}
use Rattle.std.proofs.Math.Option.{none, some}
use mathlib.Core.List.{List, [], ◌∷◌, ◌++◌, append_assoc, Memᴰ}
use native.Mathlib.Omega.{arith}
use Rattle.std.proofs.Math.Dec.{T, not_T}
use Rattle.lists.specs.Bools.{cond_both}
use Rattle.trees.specs.Tree.{Tree, leaf, node, height, leaves, last, Avl, avl_leaf, avl_node}
use Rattle.trees.specs.Operations.{Part, Cut, part_leaves, part_height, join_p, split, split_p}
use Rattle.trees.specs.Leaves.{last_leaf}
use Rattle.trees.proofs.Leaves.{leaves_join_p}
use Rattle.trees.specs.Balanced.{AvlP}
use Rattle.trees.proofs.Balanced.{near_join_p}
use Rattle.trees.specs.Order.{Turning, All, None, all_one, all_append, halves_turning, parted, up_to_last, one_cut}
use Rattle.trees.specs.Split.{Clean, Halves, Low, cut_leaves}

module _ {A : Type 0} where
  -- no leaf is lost, whatever the test
  pub split_leaves : (test : A → Bool) (t : Tree A) → cut_leaves (split test t) ≡ leaves t
  unfolding split
  split_leaves test (leaf x) = cond_both (λ c. cut_leaves c ≡ x ∷ []) (test x) (λ t. refl) (λ t. refl)
  split_leaves test (node l r) =
      cond_both (λ c. cut_leaves c ≡ leaves l ++ leaves r) (test (last l)) (λ t. simp (leaves_join_p, append_assoc, split_leaves test r))
      (λ t. simp (leaves_join_p, ← append_assoc, split_leaves test l))

  pub split_p_leaves : (test : A → Bool) (p : Part A) → cut_leaves (split_p test p) ≡ part_leaves p
  unfolding split_p
  split_p_leaves test none = refl
  split_p_leaves test (some t) = split_leaves test t

  all_join_p : (test : A → Bool) (p q : Part A) → All test (part_leaves p) → All test (part_leaves q) → All test (part_leaves (join_p p q))
  all_join_p test p q f g = subst (All test) (sym (leaves_join_p p q)) (all_append test (part_leaves p) f g)

  pub split_clean : (test : A → Bool) (t : Tree A) → Turning test (leaves t) → Clean test (split test t)
  unfolding split
  split_clean test (leaf x) p =
      cond_both (Clean test) (test x) (λ t. record { passing = all_one test t; failing = λ a m. elim m [ ] })
      (λ t. record { passing = λ a m. elim m [ ]; failing = all_one (λ a. not (test a)) t })
  split_clean test (node l r) p =
      let q = parted (leaves l) p in
      let cl = split_clean test l q.left in
      let cr = split_clean test r q.right in
      cond_both (Clean test) (test (last l)) (λ t. record {
        passing = all_join_p test (some l) (split test r).front (front t q.left) cr.passing;
        failing = cr.failing;
      })
      (λ t. record {
        passing = cl.passing;
        failing = all_join_p (λ a. not (test a)) (split test l).back (some r) cl.failing
            (back t (λ a m. q.across (last_leaf l) m));
      })
    where
      front : T (test (last l)) → Turning test (leaves l) → All test (leaves l)
      front t q a m = ⊎_elim (λ (e : a ≡ last l). subst (λ c. T (test c)) (sym e) t) (λ f. f t) (up_to_last l q m)

      back : T (not (test (last l))) → ((a : A) → Memᴰ a (leaves r) → T (test a) → T (test (last l))) → None test (leaves r)
      back t f a m = not_T (test a) (λ u. T_not (test (last l)) t (f a m u))

  pub split_halves : (test : A → Bool) (t : Tree A) (xs ys : List A) → leaves t ≡ xs ++ ys → All test xs → None test ys → Halves (split test t) xs ys
  split_halves test t xs ys e p n =
      let c = split_clean test t (rw e (halves_turning test xs ys p n)) in
      let u = one_cut test (part_leaves (split test t).front) xs (split_leaves test t ∙ e) c.passing p c.failing n in
      record { before = u.0; after = u.1 }

  pub split_low : (test : A → Bool) {t : Tree A} → Avl t → Low (height t) (split test t)
  unfolding split
  split_low test (avl_leaf {a}) =
      cond_both (Low zero) (test a) (λ t. record { front_avl = avl_leaf; back_avl = tt; front_low = omega arith; back_low = omega arith })
      (λ t. record { front_avl = tt; back_avl = avl_leaf; front_low = omega arith; back_low = omega arith })
  split_low test (avl_node {l} {r} pl pr hl hr) =
      let cl = split_low test pl in
      let cr = split_low test pr in
      cond_both (Low (height (node l r))) (test (last l))
      (λ t. let n = near_join_p (some l) (split test r).front pl cr.front_avl in
      record { front_avl = n.avl; back_avl = cr.back_avl; front_low = omega arith; back_low = omega arith })
      (λ t. let n = near_join_p (split test l).back (some r) cl.back_avl pr in
      record { front_avl = cl.front_avl; back_avl = n.avl; front_low = omega arith; back_low = omega arith })

  -- ---- of a tree that may be empty
  pub split_p_clean : (test : A → Bool) (p : Part A) → Turning test (part_leaves p) → Clean test (split_p test p)
  unfolding split_p
  split_p_clean test none h = record { passing = λ a m. elim m [ ]; failing = λ a m. elim m [ ] }
  split_p_clean test (some t) h = split_clean test t h

  pub split_p_halves : (test : A → Bool) (p : Part A) (xs ys : List A) → part_leaves p ≡ xs ++ ys → All test xs → None test ys → Halves (split_p test p) xs ys
  unfolding split_p
  split_p_halves test none xs ys e f n = let u = one_cut test [] xs e (λ a m. elim m [ ]) f (λ a m. elim m [ ]) n in record { before = u.0; after = u.1 }
  split_p_halves test (some t) xs ys e f n = split_halves test t xs ys e f n

  pub split_p_low : (test : A → Bool) (p : Part A) → AvlP p → Low (part_height p) (split_p test p)
  unfolding split_p
  split_p_low test none a = record { front_avl = tt; back_avl = tt; front_low = omega arith; back_low = omega arith }
  split_p_low test (some t) a = split_low test a
