-- An item: an offer and the slot that keeps it. Items that are kept together have slots from 1 to the capacity, no two the same.
use Rattle.std.specs.Prelude.{◌≡◌, refl, ◌≢◌, ℕ, zero, suc, ◌≤◌, ◌<◌, length}
use Rattle.std.proofs.Common.{sym, ◌∙◌, ap, ⊎_elim, arith, length-append}
use mathlib.Core.List.Memᴰ
use mathlib.Core.List.{List, [], ◌∷◌, ◌++◌, Memᴰ, Sublistᴰ}
use mathlib.Core.List.Pairwise
use mathlib.Core.List.Sublistᴰ
use mathlib.Core.List.{Pairwise}
use mathlib.Core.List.{rel_of_Pairwise-cons}
use Rattle.std.proofs.Math.Decide.{ℕ_discrete}
use Rattle.lists.specs.Places.{sublist_mem}
use Rattle.offers.specs.Offers.{Offer}
use Rattle.trees.specs.Tree.{Tree, leaf, node, height, leaves}
use Rattle.trees.specs.Leaves.{some_leaf}
use Rattle.trees.specs.Order.{parted}

pub record Item : Type 0 where
  pub slot : ℕ
  pub offer : Offer

abbrev pub offer_of : Item → Offer
offer_of a = a.offer

abbrev pub slot_of : Item → ℕ
slot_of a = a.slot

-- in two slots
abbrev pub Apart : Item → Item → Type 0
Apart a b = a.slot ≢ b.slot

-- slot s is one of those of xs
pub data In (s : ℕ) (xs : List Item) : Type 0 where
  at : {a : Item} → Memᴰ a xs → s ≡ a.slot → In s xs

pub in_left : {s : ℕ} {xs : List Item} (ys : List Item) → In s xs → In s (xs ++ ys)
in_left ys (at m e) = at (Memᴰ.append_left ys m) e

pub in_right : {s : ℕ} (xs : List Item) {ys : List Item} → In s ys → In s (xs ++ ys)
in_right xs (at m e) = at (Memᴰ.append_right xs m) e

-- the slots of xs are from 1 to c, no two the same
pub record Slots (c : ℕ) (xs : List Item) : Type 0 where
  pub low : {a : Item} → Memᴰ a xs → 1 ≤ a.slot
  pub high : {a : Item} → Memᴰ a xs → a.slot ≤ c
  pub apart : Pairwise Apart xs

pub slots_none : {c : ℕ} → Slots c []
slots_none = record { low = λ m. elim m [ ]; high = λ m. elim m [ ]; apart = Pairwise.nil }

pub slots_left : {c : ℕ} {xs : List Item} (ys : List Item) → Slots c (xs ++ ys) → Slots c xs
slots_left {c} {xs} ys s =
    record { low = λ m. s.low (Memᴰ.append_left ys m); high = λ m. s.high (Memᴰ.append_left ys m); apart = (parted xs s.apart).left }

pub slots_right : {c : ℕ} (xs : List Item) {ys : List Item} → Slots c (xs ++ ys) → Slots c ys
slots_right xs s =
    record { low = λ m. s.low (Memᴰ.append_right xs m); high = λ m. s.high (Memᴰ.append_right xs m); apart = (parted xs s.apart).right }

pub slots_sublist : {c : ℕ} {xs ys : List Item} → Sublistᴰ xs ys → Slots c ys → Slots c xs
slots_sublist d s = record { low = λ m. s.low (sublist_mem d m); high = λ m. s.high (sublist_mem d m); apart = Pairwise.sublistᴰ d s.apart }

-- two lists one behind the other share no slot
pub slots_across : {c s : ℕ} (xs : List Item) {ys : List Item} → Slots c (xs ++ ys) → In s xs → In s ys → ⊥
slots_across xs s (at m e) (at n d) = (parted xs s.apart).across m n (sym e ∙ d)

-- ---- there are at most c of them

-- xs without the item in slot n
record Less (n : ℕ) (xs : List Item) : Type 0 where
  others : List Item
  sub : Sublistᴰ others xs
  miss : {b : Item} → Memᴰ b others → b.slot ≢ n
  long : length xs ≤ suc (length others)

less : (n : ℕ) (xs : List Item) → Pairwise Apart xs → Less n xs
less n [] p = record { others = []; sub = Sublistᴰ.slnil; miss = λ m. elim m [ ]; long = omega arith }
less n (a ∷ xs) p = go (ℕ_discrete a.slot n) (less n xs (Pairwise.of_cons p))
  where
    go : Dec (a.slot ≡ n) → Less n xs → Less n (a ∷ xs)
    go (yes e) q =
        record { others = xs; sub = Sublistᴰ.cons (Sublistᴰ.refl xs); miss = λ {b} m d. rel_of_Pairwise-cons p {a' = b} ∣ m ∣₁ (e ∙ sym d); long = omega arith }
    go (no e) q =
        record {
          others = a ∷ q.others;
          sub = Sublistᴰ.cons-cons refl q.sub;
          miss = λ {b} m d. ⊎_elim (λ (h : b ≡ a). e (sym (ap slot_of h) ∙ d)) (λ h. q.miss h d) (Memᴰ.cases_cons m);
          long = omega (arith, q.long);
        }

pub slots_most : (c : ℕ) (xs : List Item) → Slots c xs → length xs ≤ c
slots_most zero [] s = omega arith
slots_most zero (a ∷ xs) s = absurd (omega (arith, s.low (Memᴰ.head refl), s.high (Memᴰ.head refl)))
slots_most (suc c) xs s = omega (arith, q.long, slots_most c q.others fewer)
  where
    q : Less (suc c) xs
    q = less (suc c) xs s.apart

    fewer : Slots c q.others
    fewer =
        record {
          low = λ m. s.low (sublist_mem q.sub m);
          high = λ {a} m. lower a (s.high (sublist_mem q.sub m)) (q.miss m);
          apart = Pairwise.sublistᴰ q.sub s.apart;
        }
      where
        lower : (a : Item) → a.slot ≤ suc c → a.slot ≢ suc c → a.slot ≤ c
        lower a h d = omega arith

-- a tree is lower than it has leaves
pub height_below : (t : Tree Item) → height t < length (leaves t)
height_below (leaf a) = omega arith
height_below (node l r) =
    omega (arith, length-append (leaves l) (leaves r), height_below l, height_below r, some_leaf l, some_leaf r)

pub height_most : {c : ℕ} (t : Tree Item) → Slots c (leaves t) → height t < c
height_most {c} t s = omega (arith, height_below t, slots_most c (leaves t) s)
