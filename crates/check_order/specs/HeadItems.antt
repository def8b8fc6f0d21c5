-- The first slots of each rate hold the first items of each rate.
use Rattle.std.specs.Prelude.{◌≡◌, Bool, true, false, not, cond, T, ℤ}
use Rattle.std.proofs.Math.Path.{refl, ap}
use Rattle.std.proofs.Common.{sym, ◌∙◌, arith, T_not}
use mathlib.Core.List.{List, [], ◌∷◌, Memᴰ}
use Prim.Native.Nat.{ℕ, zero, suc, ◌≤◌}
use Rattle.std.specs.Int.Signed.{lt_z}
use Rattle.lists.specs.Bools.{passed, failed, is_true, to_false}
use Rattle.lists.specs.Filter.{keep}
use Rattle.lists.specs.Firsts.{firsts}
use Rattle.integers.specs.Parts.{int_rules}
use Rattle.table.specs.Words.{Words}
use Rattle.table.specs.Items.{Item}
use Rattle.pieces.specs.Pieces.{items, rate_of}
use Rattle.check_trees.specs.Laid.{item_at, items_at}
use Rattle.check_order.specs.Heads.{new_rate, head_slots}

-- ---- of two tests, one stricter than the other

module _ {A : Type 0} (p q : A → Bool) where
  keep_inner : ((a : A) → T (p a) → T (q a)) → (l : List A) → keep p (keep q l) ≡ keep p l
  keep_inner h [] = refl
  keep_inner h (x ∷ xs) = step (q x) refl (keep_inner h xs)
    where
      step : (b : Bool) → q x ≡ b → keep p (keep q xs) ≡ keep p xs → keep p (cond b (x ∷ keep q xs) (keep q xs)) ≡ cond (p x) (x ∷ keep p xs) (keep p xs)
      step true e r = ap (λ (l : List A). cond (p x) (x ∷ l) l) r
      step false e r = let n : p x ≡ false = to_false refl (λ t. T_not (q x) (failed e) (h x t)) in rw n r

  keep_outer : ((a : A) → T (q a) → T (p a)) → (l : List A) → keep p (keep q l) ≡ keep q l
  keep_outer h [] = refl
  keep_outer h (x ∷ xs) = step (q x) refl (keep_outer h xs)
    where
      step : (b : Bool) → q x ≡ b → keep p (keep q xs) ≡ keep q xs → keep p (cond b (x ∷ keep q xs) (keep q xs)) ≡ cond b (x ∷ keep q xs) (keep q xs)
      step true e r = let y : p x ≡ true = is_true (p x) (h x (passed e)) in rw y (ap (λ (l : List A). x ∷ l) r)
      step false e r = r

-- ---- one pass

-- those of a lower rate
abbrev below : Item → Item → Bool
below a = items.before a

lower : (a b c : ℤ) → T (lt_z b a) → T (lt_z c b) → T (lt_z c a)
lower a b c t u = omega (arith, int_rules)

lower_still : (a b c : ℤ) → T (not (lt_z b a)) → T (lt_z c a) → T (lt_z c b)
lower_still a b c t u = omega (arith, int_rules)

module _ (w : Words) where
  -- behind slot p: the firsts of a lower rate
  follow : (p : ℕ) (ss : List ℕ) → ((s : ℕ) → Memᴰ s ss → 1 ≤ s) →
      items_at w (head_slots w (suc p) ss) ≡ keep (below (item_at w (suc p))) (firsts items.before (items_at w ss))
  unfolding new_rate head_slots
  follow p [] low = refl
  follow p (zero ∷ ss) low = absurd (omega (arith, low zero (Memᴰ.head refl)))
  follow p (suc s ∷ ss) low =
      step (below a b) refl (follow s ss (λ t m. low t (Memᴰ.tail m))) (follow p ss (λ t m. low t (Memᴰ.tail m)))
    where
      a : Item
      a = item_at w (suc p)

      b : Item
      b = item_at w (suc s)

      rest : List Item
      rest = firsts items.before (items_at w ss)

      step : (t : Bool) → below a b ≡ t → items_at w (head_slots w (suc s) ss) ≡ keep (below b) rest → items_at w (head_slots w (suc p) ss) ≡ keep (below a) rest →
          items_at w (cond t (suc s ∷ head_slots w (suc s) ss) (head_slots w (suc p) ss))
          ≡ cond t (b ∷ keep (below a) (keep (below b) rest)) (keep (below a) (keep (below b) rest))
      step true e new same =
          ap (λ (l : List Item). b ∷ l)
          (new ∙ sym (keep_outer (below a) (below b) (λ c t. lower (rate_of a) (rate_of b) (rate_of c) (passed e) t) rest))
      step false e new same =
          same ∙ sym (keep_inner (below a) (below b) (λ c t. lower_still (rate_of a) (rate_of b) (rate_of c) (failed e) t) rest)

  pub head_items : (ss : List ℕ) → ((s : ℕ) → Memᴰ s ss → 1 ≤ s) → items_at w (head_slots w 0 ss) ≡ firsts items.before (items_at w ss)
  unfolding new_rate head_slots
  head_items [] low = refl
  head_items (zero ∷ ss) low = absurd (omega (arith, low zero (Memᴰ.head refl)))
  head_items (suc s ∷ ss) low = ap (λ (l : List Item). item_at w (suc s) ∷ l) (follow s ss (λ t m. low t (Memᴰ.tail m)))
