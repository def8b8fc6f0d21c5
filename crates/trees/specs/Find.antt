-- Find by key: what is found is a leaf with that key, and where keys fall strictly every leaf is found by its own.
use Rattle.std.specs.Prelude.{◌≡◌, refl, not, ℤ}
use Rattle.std.proofs.Math.Path.{sym, ap}
use Rattle.std.proofs.Common.{◌∙◌, arith}
use Rattle.std.proofs.Math.Logic.{⊎_elim}
use Rattle.std.proofs.Math.Option.{Option, none, some, none-ne-some, some-injective}
use mathlib.Core.List.{List, [], ◌∷◌, ◌++◌, Memᴰ}
use Rattle.std.proofs.Math.Dec.{T}
use Rattle.std.specs.Int.Signed.{lt_z, le_z}
use Rattle.lists.specs.Bools.{cond_both}
use Rattle.integers.specs.Parts.{int_rules, equal_eq}
use Rattle.integers.specs.Equal.{equal}
use Rattle.trees.specs.Tree.{Tree, leaf, node, leaves, last}
use Rattle.trees.specs.Operations.{find}
use Rattle.trees.specs.TreeSteps.{find_here}
use Rattle.trees.specs.Leaves.{last_leaf}
use Rattle.trees.specs.Order.{Falling, parted, last_lowest}

module _ {A : Type 0} (key : A → ℤ) (k : ℤ) where
  -- a leaf of the list with the key
  pub record Keyed (xs : List A) (a : A) : Type 0 where
    pub inside : Memᴰ a xs
    pub keyed : key a ≡ k

  pub find_sound : (t : Tree A) {a : A} → find key k t ≡ some a → Keyed (leaves t) a
  unfolding find
  find_sound (leaf x) {a} = cond_both (λ o. o ≡ some a → Keyed (x ∷ []) a) (equal (key x) k) here (λ t e. absurd (none-ne-some a e))
    where
      here : T (equal (key x) k) → some x ≡ some a → Keyed (x ∷ []) a
      here t e = let one = some-injective x a e in record { inside = mathlib.Core.List.Memᴰ.head (sym one); keyed = sym (ap key one) ∙ equal_eq (key x) k t }
  find_sound (node l r) {a} =
      cond_both (λ o. o ≡ some a → Keyed (leaves l ++ leaves r) a) (lt_z k (key (last l)))
      (λ t e. let f = find_sound r e in record { inside = mathlib.Core.List.Memᴰ.append_right (leaves l) f.inside; keyed = f.keyed })
      (λ t e. let f = find_sound l e in record { inside = mathlib.Core.List.Memᴰ.append_left (leaves r) f.inside; keyed = f.keyed })

  pub find_complete : (t : Tree A) → Falling key (leaves t) → {a : A} → Keyed (leaves t) a → find key k t ≡ some a
  unfolding find
  find_complete (leaf x) p {a} f = let one = mathlib.Core.List.Memᴰ.eq_of_singleton f.inside in find_here key k x (sym (ap key one) ∙ f.keyed) ∙ ap some (sym one)
  find_complete (node l r) p {a} f =
      let q = parted (leaves l) p in
      let on_left : Memᴰ a (leaves l) → T (le_z (key (last l)) (key a)) = λ m. last_lowest key l q.left m in
      let on_right : Memᴰ a (leaves r) → T (lt_z (key a) (key (last l))) = λ m. q.across (last_leaf l) m in
      cond_both (λ o. o ≡ some a) (lt_z k (key (last l)))
      (λ t. ⊎_elim (λ m. absurd (off f.keyed t (on_left m))) (λ m. find_complete r q.right (record { inside = m; keyed = f.keyed }))
      (mathlib.Core.List.Memᴰ.append_cases (leaves l) f.inside))
      (λ t. ⊎_elim (λ m. find_complete l q.left (record { inside = m; keyed = f.keyed })) (λ m. absurd (off' f.keyed t (on_right m)))
      (mathlib.Core.List.Memᴰ.append_cases (leaves l) f.inside))
    where
      off : key a ≡ k → T (lt_z k (key (last l))) → T (le_z (key (last l)) (key a)) → ⊥
      off e s t = omega (arith, int_rules)

      off' : key a ≡ k → T (not (lt_z k (key (last l)))) → T (lt_z (key a) (key (last l))) → ⊥
      off' e s t = omega (arith, int_rules)

  -- nothing is found exactly where no leaf has the key
  pub find_none : (t : Tree A) → Falling key (leaves t) → find key k t ≡ none → {a : A} → ¬ Keyed (leaves t) a
  find_none t p e {a} f = none-ne-some a (sym e ∙ find_complete t p f)

  pub none_find : (t : Tree A) → ((a : A) → ¬ Keyed (leaves t) a) → find key k t ≡ none
  none_find t n = go (find key k t) refl
    where
      go : (o : Option A) → find key k t ≡ o → o ≡ none
      go none e = refl
      go (some a) e = absurd (n a (find_sound t e))
