-- Decided tests, lengths of sublists, and relations of all pairs.
use Rattle.std.specs.Prelude.{◌≡◌, ◌≢◌, Bool, true, false, ◌≤◌, T, length}
use Rattle.std.proofs.Common.{sym, ◌∙◌, ap, arith}
use Rattle.std.proofs.Math.Logic.{∥∥₁_elim}
use mathlib.Core.List.{List, ◌∷◌, Memᴰ, Sublistᴰ}
use mathlib.Core.List.Pairwise
use mathlib.Core.List.{Pairwise, rel_of_Pairwise-cons}

-- A test that computes is decided.
abbrev pub decide_true : (b : Bool) → Dec (T b)
decide_true true = yes tt
decide_true false = no (λ t. t)

module _ {A : Type 0} where
  pub sub_length : {s l : List A} → Sublistᴰ s l → length s ≤ length l
  sub_length Sublistᴰ.slnil = omega arith
  sub_length (Sublistᴰ.cons h) = let k = sub_length h in omega arith
  sub_length (Sublistᴰ.cons-cons e h) = let k = sub_length h in omega arith

  -- a relation of propositions holds of an element and each of a list, wherever that stands
  pub pairs_cons : {R : A → A → Type 0} {a : A} {l : List A} → ((x y : A) → IsProp (R x y)) → ((b : A) → Memᴰ b l → R a b) → Pairwise R l →
      Pairwise R (a ∷ l)
  pairs_cons {R} {a} p f h = Pairwise.cons (λ b m. ∥∥₁_elim m (p a b) (f b)) h

  -- every member of xs is one of ys
  abbrev pub Among : List A → List A → Type 0
  Among xs ys = (a : A) → Memᴰ a xs → Memᴰ a ys

-- where no two have one key, a key tells its owner
pub one_owner : {A B : Type 0} (key : A → B) {a b : A} {xs : List A} → Pairwise (λ a b. key a ≢ key b) xs → Memᴰ a xs → Memᴰ b xs →
    key a ≡ key b → a ≡ b
one_owner key p (Memᴰ.head d) (Memᴰ.head f) e = d ∙ sym f
one_owner key p (Memᴰ.head d) (Memᴰ.tail n) e = absurd (rel_of_Pairwise-cons p ∣ n ∣₁ (sym (ap key d) ∙ e))
one_owner key p (Memᴰ.tail m) (Memᴰ.head f) e = absurd (rel_of_Pairwise-cons p ∣ m ∣₁ (sym (ap key f) ∙ sym e))
one_owner key p (Memᴰ.tail m) (Memᴰ.tail n) e = one_owner key (Pairwise.of_cons p) m n e
