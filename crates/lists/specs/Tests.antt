-- Whether some element of a list passes a test.
use Rattle.std.specs.Prelude.{◌≡◌, refl, Bool, true, false, not, ◌&&◌, T}
use Rattle.std.proofs.Common.{sym, subst, T_not}
use mathlib.Core.List.{List, [], ◌∷◌, Memᴰ}
use Rattle.std.proofs.Math.Dec.{not_T}
use Rattle.lists.specs.Filter.{every, every_at}
use Rattle.lists.specs.Bools.{not_not}

module _ {A : Type 0} where
  -- some element passes the test
  abbrev pub any : (A → Bool) → List A → Bool
  any test os = not (every (λ o. not (test o)) os)

  pub none_at : (test : A → Bool) (os : List A) → T (not (any test os)) → (o : A) → Memᴰ o os → T (not (test o))
  none_at test os t = every_at (λ o. not (test o)) os (not_not (every (λ o. not (test o)) os) t)

-- an element that passes, where some do; and where none does
module _ {A : Type 0} (test : A → Bool) where
  pub any_some : (os : List A) → T (any test os) → (o : A) × Memᴰ o os × T (test o)
  any_some [] t = absurd t
  any_some (x ∷ xs) t = go (test x) refl t (any_some xs)
    where
      go : (b : Bool) → test x ≡ b → T (not (not b && every (λ o. not (test o)) xs)) → (T (any test xs) → (o : A) × Memᴰ o xs × T (test o)) →
          (o : A) × Memᴰ o (x ∷ xs) × T (test o)
      go true e t rec = (x, Memᴰ.head refl, subst T (sym e) tt)
      go false e t rec = let (o, m, u) = rec t in (o, Memᴰ.tail m, u)

  pub not_any : (os : List A) → ((o : A) → Memᴰ o os → T (not (test o))) → T (not (any test os))
  not_any os h = not_T (any test os) (λ t. let (o, m, u) = any_some os t in T_not (test o) (h o m) u)
