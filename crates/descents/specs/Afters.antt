-- The leaf that follows a key: of those whose key is below it the first, where keys fall.
use Rattle.std.specs.Prelude.{◌≡◌, refl, Bool, true, false, cond, not, ℕ, ◌≤◌, ℤ}
use Rattle.std.proofs.Common.{sym, ◌∙◌, ap, ⊎_elim, arith}
use Rattle.std.proofs.Math.Path.{subst}
use Rattle.std.proofs.Math.Option.{Option, none, some}
use mathlib.Core.List.Memᴰ
use mathlib.Core.List.{List, ◌++◌, Memᴰ}
use Rattle.std.proofs.Math.Dec.{T}
use Rattle.std.specs.Int.Signed.{le_z, lt_z}
use Rattle.lists.specs.Bools.{cond_both}
use Rattle.integers.specs.Parts.{int_rules}
use Rattle.trees.specs.Tree.{Tree, leaf, node, leaves, last}
use Rattle.trees.specs.Leaves.{last_leaf}
use Rattle.trees.specs.Order.{Falling, parted, last_lowest}
use Rattle.table.specs.Fields.{most_slots}
use Rattle.table.specs.Words.{Words}
use Rattle.table.specs.Layout.{cell}
use Rattle.table.specs.Items.{Item}
use Rattle.descents.specs.Seeks.{found_at, Answered, Looking, Leads, looking_ends}

-- ---- the tree

unfoldable pub below : {A : Type 0} → (A → ℤ) → ℤ → Tree A → Option A
below key k (leaf x) = cond (le_z k (key x)) none (some x)
below key k (node l r) = cond (le_z k (key (last l))) (below key k r) (below key k l)

module _ {A : Type 0} (key : A → ℤ) (k : ℤ) where
  -- no key is below k
  abbrev pub NoneBelow : List A → Type 0
  NoneBelow xs = (a : A) → Memᴰ a xs → T (le_z k (key a))

  -- of the keys below k that of b is the greatest
  pub record Follows (xs : List A) (b : A) : Type 0 where
    pub inside : Memᴰ b xs
    pub less : T (lt_z (key b) k)
    pub greatest : (a : A) → Memᴰ a xs → T (lt_z (key a) k) → T (le_z (key a) (key b))

  abbrev pub Following : List A → Option A → Type 0
  Following xs none = NoneBelow xs
  Following xs (some b) = Follows xs b

  not_both : (z : ℤ) → T (le_z k z) → T (lt_z z k) → ⊥
  not_both z t u = omega (arith, int_rules)

  one_below : (x : A) → T (not (le_z k (key x))) → Follows (leaves (leaf x)) x
  one_below x t =
      record {
        inside = Memᴰ.head refl;
        less = omega (arith, int_rules);
        greatest = λ a m u. subst (λ (y : A). T (le_z (key y) (key x))) (sym (Memᴰ.eq_of_singleton m)) (omega (arith, int_rules));
      }

  pub below_follows : (t : Tree A) → Falling key (leaves t) → Following (leaves t) (below key k t)
  unfolding below
  below_follows (leaf x) p =
      cond_both (Following (leaves (leaf x))) (le_z k (key x)) (λ t a m. subst (λ y. T (le_z k (key y))) (sym (Memᴰ.eq_of_singleton m)) t) (one_below x)
  below_follows (node l r) p =
      cond_both (Following (leaves l ++ leaves r)) (le_z k (key (last l))) (λ t. on_right t (below key k r) (below_follows r (parted (leaves l) p).right))
      (λ t. on_left t (below key k l) (below_follows l (parted (leaves l) p).left))
    where
      high : T (le_z k (key (last l))) → (a : A) → Memᴰ a (leaves l) → T (le_z k (key a))
      high t a m = let u = last_lowest key l (parted (leaves l) p).left m in omega (arith, int_rules)

      on_right : T (le_z k (key (last l))) → (o : Option A) → Following (leaves r) o → Following (leaves l ++ leaves r) o
      on_right t none g = λ a m. ⊎_elim (high t a) (g a) (Memᴰ.append_cases (leaves l) m)
      on_right t (some b) g =
          record {
            inside = Memᴰ.append_right (leaves l) g.inside;
            less = g.less;
            greatest = λ a m v. ⊎_elim (λ j. absurd (not_both (key a) (high t a j) v)) (λ j. g.greatest a j v) (Memᴰ.append_cases (leaves l) m);
          }

      on_left : T (not (le_z k (key (last l)))) → (o : Option A) → Following (leaves l) o → Following (leaves l ++ leaves r) o
      on_left t none g = absurd (off (g (last l) (last_leaf l)))
        where
          off : T (le_z k (key (last l))) → ⊥
          off u = omega (arith, int_rules)
      on_left t (some b) g =
          record {
            inside = Memᴰ.append_left (leaves r) g.inside;
            less = g.less;
            greatest = λ a m v. ⊎_elim (λ j. g.greatest a j v) (lower a) (Memᴰ.append_cases (leaves l) m);
          }
        where
          lower : (a : A) → Memᴰ a (leaves r) → T (le_z (key a) (key b))
          lower a j =
              let x = (parted (leaves l) p).across (last_leaf l) j in
              let y = g.greatest (last l) (last_leaf l) (omega (arith, int_rules)) in
              omega (arith, int_rules)

-- ---- the words

abbrev pub After : Words → ℕ → ℕ → ℤ → ℕ → ℕ → Type 0
After w k f sought x r = Answered below w k f sought x r

-- it is right of a leaf whose key is not below
pub below_leads : Leads below le_z
unfolding below
below_leads key sought true l r e = ap (λ c. cond c (below key sought r) (below key sought l)) e
below_leads key sought false l r e = ap (λ c. cond c (below key sought r) (below key sought l)) e

pub below_ends : {w : Words} {k f x y limit : ℕ} {b : Bool} (sought : ℤ) (d : Bool) → Looking below w k f sought x y limit → y ≤ most_slots →
    b ≡ le_z sought (cell w f y) → b ≡ d
    → After w k f sought x (cond d 0 y)
unfolding below
below_ends {w} {k} {f} {x} {y} sought d j h eb e = looking_ends (cond d 0 y) j h (zero d) (λ key a s i. one d key a s (told key a i))
  where
    zero : (d : Bool) → y ≡ 0 → cond d 0 y ≡ 0
    zero true i = refl
    zero false i = i

    told : (key : Item → ℤ) (a : Item) → cell w f y ≡ key a → d ≡ le_z sought (key a)
    told key a i = sym e ∙ eb ∙ ap (le_z sought) i

    one : (d : Bool) (key : Item → ℤ) (a : Item) → y ≡ a.slot → d ≡ le_z sought (key a) → cond d 0 y ≡ found_at (below key sought (leaf a))
    one true key a s g = ap (λ c. found_at (cond c none (some a))) g
    one false key a s g = s ∙ ap (λ c. found_at (cond c none (some a))) g
