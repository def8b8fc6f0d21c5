-- What holds at each place of a stretch holds of each item that stands there, and back: offers in range, and keys that fall.
use Rattle.std.specs.Prelude.{◌≡◌, ◌≢◌, T, ℤ, get_or}
use Rattle.std.proofs.Common.{sym, ◌∙◌, ap, subst₂, ⊎_elim, arith}
use Rattle.std.proofs.Math.Path.{subst}
use Rattle.std.proofs.Math.Logic.{∥∥₁_elim}
use mathlib.Core.List.Memᴰ
use mathlib.Core.List.Pairwise
use mathlib.Core.List.{List, ◌∷◌, Memᴰ, Pairwise}
use mathlib.Core.List.{IsChain, rel_of_Pairwise-cons}
use Prim.Native.Nat.{ℕ, zero, suc, ◌+◌, ◌-◌, ◌≤◌, ◌<◌}
use Rattle.std.proofs.Math.Dec.{T_prop}
use Rattle.std.specs.Int.Signed.{lt_z}
use Rattle.lists.specs.Members.{pairs_cons}
use Rattle.integers.specs.Parts.{int_rules}
use Rattle.offers.specs.Offers.{offer_in_range}
use Rattle.trees.specs.Order.{Falling}
use Rattle.table.specs.Words.{Words}
use Rattle.table.specs.Layout.{cap}
use Rattle.table.specs.Items.{Item, Apart, Slots}
use Rattle.table.specs.Threads.{Held, Holds}
use Rattle.table.specs.Keys.{Keyed}
use Rattle.check_trees.specs.Stretches.{stretch, span, span_mem, chain_span, span_chain}
use Rattle.check_trees.specs.Deciding.{Every}
use Rattle.check_trees.specs.Loops.{FallsHere, RangedHere}
use Rattle.check_trees.specs.Laid.{item_at, items_at, Placed, AllPlaced}

module _ (w : Words) (xs : List ℕ) where
  -- the item at a place is one of the stretch
  pub item_mem : (a b k : ℕ) → a ≤ k → k < b → Memᴰ (item_at w (get_or xs k 0)) (items_at w (span xs a b))
  item_mem a b k l h = Memᴰ.map (item_at w) (span_mem xs a b k l h)

  -- and each of the stretch is at one
  stretch_all : (P : Item → Type 0) (a n : ℕ) → ((k : ℕ) → a ≤ k → k < a + n → P (item_at w (get_or xs k 0))) → (i : Item) →
      Memᴰ i (items_at w (stretch xs a n)) → P i
  unfolding stretch
  stretch_all P a zero f i m = elim m [ ]
  stretch_all P a (suc n) f i (Memᴰ.head e) = subst P (sym e) (f a (omega arith) (omega arith))
  stretch_all P a (suc n) f i (Memᴰ.tail m) = stretch_all P (suc a) n (λ k l h. f k (omega arith) (omega arith)) i m

  pub span_all : (P : Item → Type 0) (a b : ℕ) → ((k : ℕ) → a ≤ k → k < b → P (item_at w (get_or xs k 0))) → (i : Item) →
      Memᴰ i (items_at w (span xs a b)) → P i
  span_all P a b f = stretch_all P a (b - a) (λ k l h. f k l (omega arith))

-- ---- offers in range

abbrev pub AllRanged : List Item → Type 0
AllRanged xs = (a : Item) → Memᴰ a xs → T (offer_in_range a.offer)

module _ {w : Words} {xs : List ℕ} where
  pub ranged_span : (a b : ℕ) → Every (RangedHere w xs) a b → AllRanged (items_at w (span xs a b))
  ranged_span a b e = span_all w xs (λ (i : Item). T (offer_in_range i.offer)) a b (λ k l h. (e.at k l h).ranged)

  pub span_ranged : (a b : ℕ) → AllRanged (items_at w (span xs a b)) → Every (RangedHere w xs) a b
  span_ranged a b f = record { at = λ k l h. record { ranged = f (item_at w (get_or xs k 0)) (item_mem w xs a b k l h) } }

-- ---- items whose slots hold their offers

pub holds_placed : {w : Words} {xs : List Item} → Slots (cap w) xs → Holds w xs → AllPlaced w xs
holds_placed {w} s h a m = record { low = s.low m; high = s.high m; is = is }
  where
    is : a ≡ item_at w a.slot
    is = λ i. record { slot = a.slot; offer = record { number = sym (h.held m).number i; rate = sym (h.held m).rate i; base = sym (h.held m).base i } }

pub placed_holds : {w : Words} {xs : List Item} → AllPlaced w xs → AllRanged xs → Holds w xs
placed_holds {w} {xs} p r = record { held = λ {a} m. held a m (p a m).is }
  where
    held : (a : Item) → Memᴰ a xs → a ≡ item_at w a.slot → Held w a
    held a m e =
        record {
          number = ap (λ (b : Item). b.offer.number) (sym e);
          rate = ap (λ (b : Item). b.offer.rate) (sym e);
          base = ap (λ (b : Item). b.offer.base) (sym e);
          ranged = r a m;
        }

-- ---- keys that fall

abbrev Above : (Item → ℤ) → Item → Item → Type 0
Above key i j = T (lt_z (key j) (key i))

-- each key above the next one's is above all that follow
chain_falling : {A : Type 0} (key : A → ℤ) {xs : List A} → IsChain (λ (a b : A). T (lt_z (key b) (key a))) xs → Falling key xs
chain_falling key IsChain.nil = Pairwise.nil
chain_falling key (IsChain.singleton a) = pairs_cons (λ x y. T_prop (lt_z (key y) (key x))) (λ b m. elim m [ ]) Pairwise.nil
chain_falling {A} key (IsChain.cons-cons {a} {b} {l} h c) = go (chain_falling key c)
  where
    below : (k l m : ℤ) → T (lt_z l k) → T (lt_z m l) → T (lt_z m k)
    below k l m s t = omega (arith, int_rules)

    go : Falling key (b ∷ l) → Falling key (a ∷ b ∷ l)
    go f =
        pairs_cons (λ x y. T_prop (lt_z (key y) (key x)))
        (λ x m. ⊎_elim (λ (e : x ≡ b). subst (λ (y : A). T (lt_z (key y) (key a))) (sym e) h)
        (λ n. below (key a) (key b) (key x) h (rel_of_Pairwise-cons f ∣ n ∣₁)) (Memᴰ.cases_cons m)) f

-- a field that is the key of the items falls from place to place exactly where the key falls along them
module _ (key : Item → ℤ) {w : Words} {f : ℕ} (xs : List ℕ) (a b : ℕ) (keyed : Keyed w f key (items_at w (span xs a b))) where
  pub falling_span : Every (FallsHere w f xs) a (b - 1) → Falling key (items_at w (span xs a b))
  falling_span e =
      chain_falling key
      (chain_span (Above key) (item_at w) xs a b
      (λ k l m. subst₂ (λ (x y : ℤ). T (lt_z y x)) (keyed.read (item_mem w xs a b k l (omega arith)))
      (keyed.read (item_mem w xs a b (k + 1) (omega arith) (omega arith))) (e.at k l m).falls))

  pub span_falling : Falling key (items_at w (span xs a b)) → Every (FallsHere w f xs) a (b - 1)
  span_falling p =
      record {
        at = λ k l m. record {
          falls =
              subst₂ (λ (x y : ℤ). T (lt_z y x)) (sym (keyed.read (item_mem w xs a b k l (omega arith))))
              (sym (keyed.read (item_mem w xs a b (k + 1) (omega arith) (omega arith))))
              (span_chain (Above key) (item_at w) xs a b (Pairwise.is_chain p) k l m);
        };
      }

-- no two of them are the same
pub falling_differ : {A : Type 0} (key : A → ℤ) {a b : A} → T (lt_z (key b) (key a)) → a ≢ b
falling_differ key {a} {b} t e = let q : key a ≡ key b = ap key e in omega (arith, int_rules)

-- two items that are in one slot are one
pub placed_one : {w : Words} {a b : Item} → Placed w a → Placed w b → a.slot ≡ b.slot → a ≡ b
placed_one {w} p q e = p.is ∙ ap (item_at w) e ∙ sym q.is

-- so items by a falling key are in slots of their own
pub falling_apart : (key : Item → ℤ) {w : Words} {xs : List Item} → AllPlaced w xs → Falling key xs → Pairwise Apart xs
falling_apart key {xs} p f = Pairwise.imp_of_mem apart f
  where
    apart : (a b : Item) → ∥ Memᴰ a xs ∥₁ → ∥ Memᴰ b xs ∥₁ → T (lt_z (key b) (key a)) → Apart a b
    apart a b m n h e =
        ∥∥₁_elim m (λ p q. absurd p) (λ i. ∥∥₁_elim n (λ p q. absurd p) (λ j. falling_differ key {a = a} {b = b} h (placed_one (p a i) (p b j) e)))
