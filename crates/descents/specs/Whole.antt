-- A cut that cuts nothing off: where one part is empty, the other is the tree that was cut.
use Rattle.std.specs.Prelude.{◌≡◌, Bool, not, ℕ, T}
use Rattle.std.proofs.Math.Path.{refl, ap}
use Rattle.std.proofs.Common.{◌∙◌, arith}
use mathlib.Core.List.Memᴰ
use mathlib.Core.List.{Memᴰ}
use Rattle.std.proofs.Math.Option.{none, some}
use Rattle.lists.specs.Bools.{cond_both, is_true, is_false}
use Rattle.trees.specs.Tree.{Tree, leaf, node, leaves, last, Avl, avl_leaf, avl_node}
use Rattle.trees.specs.Leaves.{last_leaf}
use Rattle.trees.specs.Operations.{Part, Cut, join_p, split}
use Rattle.trees.specs.TreeSteps.{join_level}

module _ {A : Type 0} where
  pub record Whole (t : Tree A) (c : Cut A) : Type 0 where
    pub front : c.back ≡ none → c.front ≡ some t
    pub back : c.front ≡ none → c.back ≡ some t

  no_tree : {t : Tree A} → ◌≡◌ {A = Part A} (some t) none → ⊥
  no_tree e = let z : ◌≡◌ {A = ℕ} 0 1 = cc in absurd (omega arith)

  pub not_left : (l : Tree A) (q : Part A) → join_p (some l) q ≡ none → ⊥
  not_left l none e = no_tree e
  not_left l (some r) e = no_tree e

  pub not_right : (p : Part A) (r : Tree A) → join_p p (some r) ≡ none → ⊥
  not_right none r e = no_tree e
  not_right (some l) r e = no_tree e

  -- joining the two parts of a balanced node makes that node
  pub split_whole : (test : A → Bool) {t : Tree A} → Avl t → Whole t (split test t)
  unfolding split
  split_whole test (avl_leaf {a}) =
      cond_both (Whole (leaf a)) (test a) (λ t. record { front = λ e. refl; back = λ e. absurd (no_tree e) })
      (λ t. record { front = λ e. absurd (no_tree e); back = λ e. refl })
  split_whole test (avl_node {l} {r} pl pr hl hr) =
      let cl = split_whole test pl in
      let cr = split_whole test pr in
      cond_both (Whole (node l r)) (test (last l))
      (λ t. record { front = λ e. ap (join_p (some l)) (cr.front e) ∙ ap some (join_level l r hl hr); back = λ e. absurd (not_left l (split test r).front e) })
      (λ t. record {
        front = λ e. absurd (not_right (split test l).back r e);
        back = λ e. ap (λ p. join_p p (some r)) (cl.back e)
            ∙ ap some (join_level l r hl hr);
      })

  -- where every leaf passes, nothing is behind; where none does, nothing is in front
  pub none_behind : (test : A → Bool) (t : Tree A) → ((a : A) → Memᴰ a (leaves t) → T (test a)) → (split test t).back ≡ none
  unfolding split
  none_behind test (leaf x) f = rw (is_true (test x) (f x (Memᴰ.head refl)))
  none_behind test (node l r) f =
      rw (is_true (test (last l)) (f (last l) (Memᴰ.append_left (leaves r) (last_leaf l)))) (none_behind test r (λ a m. f a (Memᴰ.append_right (leaves l) m)))

  pub none_in_front : (test : A → Bool) (t : Tree A) → ((a : A) → Memᴰ a (leaves t) → T (not (test a))) → (split test t).front ≡ none
  unfolding split
  none_in_front test (leaf x) f = rw (is_false (test x) (f x (Memᴰ.head refl)))
  none_in_front test (node l r) f =
      rw (is_false (test (last l)) (f (last l) (Memᴰ.append_left (leaves r) (last_leaf l)))) (none_in_front test l (λ a m. f a (Memᴰ.append_left (leaves r) m)))
