-- A flag for each number: it is raised exactly where an offer with that number is live.
use Rattle.std.specs.Prelude.{◌≡◌, refl, ◌≢◌, ◌⊎◌, Bool, true, false, not, cond, ◌&&◌, ℕ, suc, ◌+◌, ◌-◌, ◌≤◌, ◌<◌, T, ℤ, pos, negsuc, length, get_or, set, replicate}
use Rattle.std.proofs.Common.{sym, ◌∙◌, ap, inl, inr, ⊎_elim, arith, T_not, length-set, get_or-set_same, get_or-set_other}
use mathlib.Core.HLevel.{¬_prop}
use mathlib.Core.List.Memᴰ
use mathlib.Core.List.Pairwise
use mathlib.Core.List.{List, [], ◌∷◌, ◌++◌, map, map-append, Memᴰ, Pairwise, rel_of_Pairwise-cons}
use Rattle.std.proofs.Math.Decide.{dec_le, ℕ_discrete}
use Rattle.std.proofs.Math.Dec.{not_T}
use Rattle.std.proofs.lemmas.List.{length-replicate, get_or-replicate}
use Rattle.lists.specs.Bools.{passed, failed, is_true, is_false, not_failed, same_test}
use Rattle.lists.specs.Filter.{every, keep_all, keep_passes, keep_sublist}
use Rattle.lists.specs.Members.{pairs_cons}
use Rattle.lists.specs.Tests.{any, any_some, none_at, not_any}
use Rattle.integers.specs.Parts.{equal_eq, equal_is, unequal}
use Rattle.offers.specs.Offers.{Offer, ahead}
use Rattle.plain.specs.Book.{has_number, join, leave}
use Rattle.plain.specs.Sound.{mem_join, length_join}
use Rattle.plain.proofs.LiveAfter.{post_adds, withdraw_drops}
use Rattle.table.specs.Fields.{number_field}
use Rattle.table.specs.Words.{Words, up_to, up_to_in, up_to_over, up_to_below, up_to_most}
use Rattle.table.specs.Layout.{cell}
use Rattle.table.specs.Items.{offer_of}
use Rattle.check_trees.specs.Stretches.{span, span_none, span_cut, span_one}
use Rattle.check_trees.specs.Laid.{item_at, items_at}

abbrev pub most_number : ℕ
most_number = 9_999

abbrev pub flag_count : ℕ
flag_count = 10_000

pub record Marked (flags : List Bool) (os : List Offer) : Type 0 where
  pub long : length flags ≡ flag_count
  pub told : (m : ℕ) → 1 ≤ m → m < flag_count → get_or flags m false ≡ any (has_number (pos m)) os

-- ---- who has a number, after an offer joined or left

any_at : (n : ℤ) (os : List Offer) (o : Offer) → Memᴰ o os → o.number ≡ n → T (any (has_number n) os)
any_at n os o m e = not_failed (any (has_number n) os) (λ t. T_not (has_number n o) (none_at (has_number n) os t o m) (equal_is o.number n e))

any_last : (n : ℤ) (o : Offer) (os : List Offer) → o.number ≡ n → any (has_number n) (os ++ o ∷ []) ≡ true
any_last n o os e = is_true _ (any_at n (os ++ o ∷ []) o (Memᴰ.append_right os (Memᴰ.head refl)) e)

any_before : (n : ℤ) (o : Offer) (os : List Offer) → o.number ≢ n → any (has_number n) os ≡ any (has_number n) (os ++ o ∷ [])
any_before n o os d = same_test _ _ there back
  where
    there : T (any (has_number n) os) → T (any (has_number n) (os ++ o ∷ []))
    there t = let (q, i, e) = any_some (has_number n) os t in any_at n (os ++ o ∷ []) q (Memᴰ.append_left (o ∷ []) i) (equal_eq q.number n e)

    back : T (any (has_number n) (os ++ o ∷ [])) → T (any (has_number n) os)
    back t =
        let (q, i, e) = any_some (has_number n) (os ++ o ∷ []) t in
        ⊎_elim (λ m. any_at n os q m (equal_eq q.number n e))
        (λ m. absurd (d (ap (λ (a : Offer). a.number) (sym (Memᴰ.eq_of_singleton m)) ∙ equal_eq q.number n e))) (Memᴰ.append_cases os i)

leave_same : (n : ℤ) (os : List Offer) → any (has_number n) (leave n os) ≡ false
leave_same n os = is_false _ (not_any (has_number n) (leave n os) (keep_passes (λ o. not (has_number n o)) os))

leave_other : (n m : ℤ) (os : List Offer) → m ≢ n → any (has_number m) (leave n os) ≡ any (has_number m) os
leave_other n m os d = same_test _ _ there back
  where
    there : T (any (has_number m) (leave n os)) → T (any (has_number m) os)
    there t = let (o, i, e) = any_some (has_number m) (leave n os) t in any_at m os o ((withdraw_drops n o os).0 i).0 (equal_eq o.number m e)

    back : T (any (has_number m) os) → T (any (has_number m) (leave n os))
    back t =
        let (o, i, e) = any_some (has_number m) os t in
        let q = equal_eq o.number m e in
        any_at m (leave n os) o ((withdraw_drops n o os).1 (i, λ p. d (sym q ∙ p))) q

join_same : (o : Offer) (os : List Offer) → any (has_number o.number) (join o os) ≡ true
join_same o os = is_true _ (any_at o.number (join o os) o ((post_adds o os).1 (inl refl)) refl)

join_other : (o : Offer) (m : ℤ) (os : List Offer) → m ≢ o.number → any (has_number m) (join o os) ≡ any (has_number m) os
join_other o m os d = same_test _ _ there back
  where
    there : T (any (has_number m) (join o os)) → T (any (has_number m) os)
    there t =
        let (p, i, e) = any_some (has_number m) (join o os) t in
        let q = equal_eq p.number m e in
        ⊎_elim (λ s. absurd (d (sym q ∙ ap (λ (a : Offer). a.number) s))) (λ j. any_at m os p j q) ((post_adds o os).0 i)

    back : T (any (has_number m) os) → T (any (has_number m) (join o os))
    back t = let (p, i, e) = any_some (has_number m) os t in any_at m (join o os) p ((post_adds o os).1 (inr i)) (equal_eq p.number m e)

-- ---- no two have one number

abbrev pub NumbersApart : List Offer → Type 0
NumbersApart os = Pairwise (λ (a b : Offer). a.number ≢ b.number) os

-- one offer goes
length_leave : (n : ℤ) (os : List Offer) → NumbersApart os → T (any (has_number n) os) → length os ≡ suc (length (leave n os))
length_leave n [] p t = absurd t
length_leave n (o ∷ os) p t = go (has_number n o) refl t (length_leave n os (Pairwise.of_cons p))
  where
    rest : T (has_number n o) → leave n os ≡ os
    rest s = keep_all (λ (q : Offer). not (has_number n q)) os
        (λ q m. not_T (has_number n q) (λ e. rel_of_Pairwise-cons p ∣ m ∣₁ (equal_eq o.number n s ∙ sym (equal_eq q.number n e))))

    go : (b : Bool) → has_number n o ≡ b → T (not (not b && every (λ q. not (has_number n q)) os)) →
        (T (any (has_number n) os) → length os ≡ suc (length (leave n os))) → length (o ∷ os) ≡ suc (length (cond (not b) (o ∷ leave n os) (leave n os)))
    go true e t rec = ap (λ (l : List Offer). suc (length l)) (sym (rest (passed e)))
    go false e t rec = ap suc (rec t)

apart_join : (o : Offer) (os : List Offer) → NumbersApart os → ((q : Offer) → Memᴰ q os → q.number ≢ o.number) → NumbersApart (join o os)
apart_join o [] p f = pairs_cons (λ a b. ¬_prop) (λ b m. elim m [ ]) p
apart_join o (x ∷ xs) p f = go (ahead o x) (apart_join o xs (Pairwise.of_cons p) (λ q m. f q (Memᴰ.tail m)))
  where
    other : (b : Offer) → (b ≡ o) ⊎ Memᴰ b xs → x.number ≢ b.number
    other b (inl e) d = f x (Memᴰ.head refl) (d ∙ ap (λ (a : Offer). a.number) e)
    other b (inr m) d = rel_of_Pairwise-cons p ∣ m ∣₁ d

    go : (b : Bool) → NumbersApart (join o xs) → NumbersApart (cond b (o ∷ x ∷ xs) (x ∷ join o xs))
    go true rec = pairs_cons (λ a b. ¬_prop) (λ b m e. f b m (sym e)) p
    go false rec = pairs_cons (λ a b. ¬_prop) (λ b m. other b (mem_join o xs m)) rec

-- ---- the flags along with the offers

-- the flags tell the numbers of these offers, no two of which have one number; a book of c slots has room for so many more
pub record Tracks (c : ℕ) (flags : List Bool) (room : ℕ) (os : List Offer) : Type 0 where
  pub marked : Marked flags os
  pub apart : NumbersApart os
  pub full : room + length os ≡ c

-- one flag is set, and tells what it should
set_marked : {flags : List Bool} {os os' : List Offer} (m : ℕ) (b : Bool) → m < flag_count → Marked flags os → (1 ≤ m → b ≡ any (has_number (pos m)) os') →
    ((k : ℕ) → k ≢ m → 1 ≤ k → k < flag_count → any (has_number (pos k)) os ≡ any (has_number (pos k)) os') → Marked (set flags m b) os'
set_marked {flags} {os} {os'} m b h M e f = record { long = length-set flags m b ∙ M.long; told = λ k l u. here k l u (ℕ_discrete k m) }
  where
    here : (k : ℕ) → 1 ≤ k → k < flag_count → Dec (k ≡ m) → get_or (set flags m b) k false ≡ any (has_number (pos k)) os'
    here k l u (yes q) = rw q (get_or-set_same flags m b false (omega (arith, M.long)) ∙ e (omega arith))
    here k l u (no q) = get_or-set_other flags m k b false q ∙ M.told k l u ∙ f k q l u

pos_apart : {k m : ℕ} → k ≢ m → pos k ≢ pos m
pos_apart d e = d (cc)

module _ {c room m : ℕ} {flags : List Bool} {os : List Offer} (G : Tracks c flags room os) (low : 1 ≤ m) (high : m < flag_count) where
  pub tracks_leave : get_or flags m false ≡ true → Tracks c (set flags m false) (room + 1) (leave (pos m) os)
  tracks_leave e =
      record {
        marked = set_marked m false high G.marked (λ l. sym (leave_same (pos m) os)) (λ k d l u. sym (leave_other (pos m) (pos k) os (pos_apart d)));
        apart = Pairwise.sublistᴰ (keep_sublist (λ o. not (has_number (pos m) o)) os) G.apart;
        full = omega (arith, G.full, length_leave (pos m) os G.apart (passed (sym (G.marked.told m low high) ∙ e)));
      }

  pub tracks_join : (o : Offer) → o.number ≡ pos m → get_or flags m false ≡ false → 1 ≤ room → Tracks c (set flags m true) (room - 1) (join o os)
  tracks_join o n e r =
      record {
        marked = set_marked m true high G.marked (λ l. sym (ap (λ (z : ℤ). any (has_number z) (join o os)) (sym n) ∙ join_same o os))
            (λ k d l u. sym (join_other o (pos k) os (λ q. pos_apart d (q ∙ n))));
        apart = apart_join o os G.apart (λ q i s. unequal q.number (pos m) (none_at (has_number (pos m)) os absent q i) (s ∙ n));
        full = omega (arith, G.full, length_join o os);
      }
    where
      absent : T (not (any (has_number (pos m)) os))
      absent = failed (sym (G.marked.told m low high) ∙ e)

-- ---- the flags raised, slot by slot

-- the offers in the slots from place a up to place b
abbrev pub offers_at : Words → List ℕ → ℕ → ℕ → List Offer
offers_at w xs a b = map offer_of (items_at w (span xs a b))

-- flags that are all down are raised for these offers
pub record Marks (w : Words) (xs : List ℕ) (n : ℕ) (flags flags' : List Bool) : Type 0 where
  pub told : Marked flags [] → Marked flags' (offers_at w xs 0 n)

-- .. so far those up to place i
pub record Marking (w : Words) (xs : List ℕ) (i : ℕ) (flags flags' : List Bool) : Type 0 where
  pub so_far : Marked flags [] → Marked flags' (offers_at w xs 0 i)

pub all_down : Marked (replicate flag_count false) []
all_down = record { long = length-replicate flag_count false; told = λ m l h. get_or-replicate flag_count m false false h }

-- a number that is read as one from 1 on is that number
pub read_as : (most : ℕ) (z : ℤ) → 1 ≤ up_to most z → z ≡ pos (up_to most z)
read_as most (pos n) h = go (dec_le n most)
  where
    go : Dec (n ≤ most) → pos n ≡ pos (up_to most (pos n))
    go (yes l) = ap pos (sym (up_to_in most n l))
    go (no l) = absurd (omega (arith, up_to_over most n (omega arith)))
read_as most (negsuc n) h = absurd (omega (arith, up_to_below most n))

pub number_below : {m : ℕ} (z : ℤ) → m ≡ up_to most_number z → m < flag_count
number_below z e = omega (arith, up_to_most most_number z)

module _ {w : Words} {xs : List ℕ} {flags : List Bool} where
  pub marking_none : Marking w xs 0 flags flags
  marking_none = record { so_far = λ M. rw (span_none xs 0 0 (omega arith)) M }

  pub marking_more : {flags' : List Bool} {i s m : ℕ} → s ≡ get_or xs i 0 → m ≡ up_to most_number (cell w number_field s) → Marking w xs i flags flags' →
      Marking w xs (i + 1) flags (set flags' m true)
  marking_more {flags'} {i} {s} {m} es em g =
      record {
        so_far = λ M. rw snoc (set_marked m true (number_below _ em) (g.so_far M) (λ k. sym (any_last (pos m) o front (here k)))
            (λ k d a b. any_before (pos k) o front (other k d a b)));
      }
    where
      o : Offer
      o = (item_at w s).offer

      front : List Offer
      front = offers_at w xs 0 i

      snoc : offers_at w xs 0 (i + 1) ≡ front ++ o ∷ []
      snoc =
          let p : i + 1 ≡ suc i = omega arith in
          ap (λ (ss : List ℕ). map offer_of (items_at w ss))
          (rw p (span_cut xs 0 i (suc i) (omega arith) (omega arith))
          ∙ ap (λ (zs : List ℕ). span xs 0 i ++ zs) (span_one xs i ∙ ap (λ (a : ℕ). a ∷ []) (sym es)))
          ∙ ap (map offer_of) (map-append (item_at w) (span xs 0 i) (s ∷ []))
          ∙ map-append offer_of (items_at w (span xs 0 i)) (item_at w s ∷ [])

      here : 1 ≤ m → cell w number_field s ≡ pos m
      here k = read_as most_number (cell w number_field s) (omega arith) ∙ ap pos (sym em)

      other : (k : ℕ) → k ≢ m → 1 ≤ k → k < flag_count → cell w number_field s ≢ pos k
      other k d a b e = d (sym (em ∙ ap (up_to most_number) e ∙ up_to_in most_number k (omega arith)))

  pub marking_done : {flags' : List Bool} {n i : ℕ} → i ≡ n → Marking w xs i flags flags' → Marks w xs n flags flags'
  marking_done e g = record { told = λ M. rw (← e) (g.so_far M) }
