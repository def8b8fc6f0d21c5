-- Who is live after a post and after a withdrawal.
use Rattle.std.specs.Prelude.{◌≡◌, ◌⊎◌, ◌↔◌, ◌≢◌, Bool, true, false, not, cond, ℤ}
use Rattle.std.proofs.Common.{inl, inr}
use mathlib.Core.List.{List, [], ◌∷◌, Memᴰ}
use Rattle.std.proofs.Math.Dec.{not_T}
use Rattle.lists.specs.Filter.{keep_passes, keep_in, keep_sublist}
use Rattle.lists.specs.Places.{sublist_mem}
use Rattle.integers.specs.Equal.{equal}
use Rattle.integers.specs.Parts.{unequal, equal_eq}
use Rattle.offers.specs.Offers.{Offer, ahead}
use Rattle.plain.specs.Book.{join, leave, has_number}
use Rattle.plain.specs.Sound.{mem_join}

in_join : (o : Offer) {x : Offer} (os : List Offer) → (x ≡ o) ⊎ Memᴰ x os → Memᴰ x (join o os)
in_join o [] (inl e) = Memᴰ.head e
in_join o [] (inr m) = elim m [ ]
in_join o {x} (p ∷ ps) w = go (ahead o p) w (in_join o ps)
  where
    go : (b : Bool) → (x ≡ o) ⊎ Memᴰ x (p ∷ ps) → ((x ≡ o) ⊎ Memᴰ x ps → Memᴰ x (join o ps)) → Memᴰ x (cond b (o ∷ p ∷ ps) (p ∷ join o ps))
    go true (inl e) rec = Memᴰ.head e
    go true (inr m) rec = Memᴰ.tail m
    go false (inl e) rec = Memᴰ.tail (rec (inl e))
    go false (inr (Memᴰ.head e)) rec = Memᴰ.head e
    go false (inr (Memᴰ.tail m)) rec = Memᴰ.tail (rec (inr m))

-- After a post: the new offer and those that were live.
pub post_adds : (o : Offer) {x : Offer} (os : List Offer) → Memᴰ x (join o os) ↔ ((x ≡ o) ⊎ Memᴰ x os)
post_adds o os = (mem_join o os, in_join o os)

-- After a withdrawal: those that were live, with other numbers.
pub withdraw_drops : (n : ℤ) (x : Offer) (os : List Offer) → Memᴰ x (leave n os) ↔ (Memᴰ x os × (x.number ≢ n))
withdraw_drops n x os = (
  λ m. (sublist_mem (keep_sublist other os) m, unequal x.number n (keep_passes other os x m)),
  λ w. keep_in other os x w.0 (not_T (equal x.number n) (λ t. w.1 (equal_eq x.number n t))),
)
  where
    other : Offer → Bool
    other o = not (has_number n o)
