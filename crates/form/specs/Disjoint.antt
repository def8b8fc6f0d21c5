-- Lists of items that share no slot, put together.
use Rattle.std.specs.Prelude.{refl, ◌⊎◌, ℕ, ◌≤◌}
use Rattle.std.proofs.Common.{inl, inr, ⊎_elim}
use Rattle.std.proofs.Math.Logic.{∥∥₁_elim}
use mathlib.Core.HLevel.{¬_prop}
use mathlib.Core.List.Memᴰ
use mathlib.Core.List.{List, ◌++◌, Pairwise-append}
use Rattle.table.specs.Items.{Item, In, at, in_left, in_right, Slots}
use Rattle.form.specs.Frames.{Inside, Disjoint}

pub in_cases : {s : ℕ} (xs : List Item) {ys : List Item} → In s (xs ++ ys) → In s xs ⊎ In s ys
in_cases xs (at m e) = ⊎_elim (λ i. inl (at i e)) (λ i. inr (at i e)) (Memᴰ.append_cases xs m)

pub inside_refl : (xs : List Item) → Inside xs xs
inside_refl xs s i = i

pub inside_trans : {xs ys zs : List Item} → Inside xs ys → Inside ys zs → Inside xs zs
inside_trans f g s i = g s (f s i)

pub inside_left : {xs : List Item} (ys : List Item) → Inside xs (xs ++ ys)
inside_left ys s i = in_left ys i

pub inside_right : (xs : List Item) {ys : List Item} → Inside ys (xs ++ ys)
inside_right xs s i = in_right xs i

pub inside_join : (xs : List Item) {ys zs : List Item} → Inside xs zs → Inside ys zs → Inside (xs ++ ys) zs
inside_join xs f g s i = ⊎_elim (f s) (g s) (in_cases xs i)

pub disjoint_join : (xs : List Item) {ys zs : List Item} → Disjoint xs zs → Disjoint ys zs → Disjoint (xs ++ ys) zs
disjoint_join xs f g s i j = ⊎_elim (λ k. f s k j) (λ k. g s k j) (in_cases xs i)

pub disjoint_turned : {xs ys : List Item} → Disjoint xs ys → Disjoint ys xs
disjoint_turned d s i j = d s j i

-- parts of two lists that share no slot share none
pub disjoint_both : {xs xs' ys ys' : List Item} → Inside xs' xs → Inside ys' ys → Disjoint xs ys → Disjoint xs' ys'
disjoint_both f g d s i j = d s (f s i) (g s j)

pub slots_join : {c : ℕ} {xs ys : List Item} → Slots c xs → Slots c ys → Disjoint xs ys → Slots c (xs ++ ys)
slots_join {c} {xs} {ys} s t d =
    record {
      low = λ {a} m. ⊎_elim {C = 1 ≤ a.slot} s.low t.low (Memᴰ.append_cases xs m);
      high = λ {a} m. ⊎_elim {C = a.slot ≤ c} s.high t.high (Memᴰ.append_cases xs m);
      apart =
          (Pairwise-append (λ a b. ¬_prop) {l₁ = xs} {l₂ = ys}).1
          (s.apart, t.apart, λ a m b n. ∥∥₁_elim m ¬_prop (λ i. ∥∥₁_elim n ¬_prop (λ j e. d a.slot (at i refl) (at j e))));
    }
