-- A call's part of the table: lent from `start` on, and what it comes back as.
use Rattle.std.specs.Prelude.{◌≡◌, refl, Bool, true, false, not, ◌||◌, List, [], ◌∷◌, ◌++◌, ℕ, ◌+◌, ◌-◌, ◌≤◌, ◌<◌, length, take, drop, T, ltb, ℤ, pos, negsuc, nat_abs}
use Rattle.std.proofs.Common.{sym, ◌∙◌, ap, arith, length-drop, length-append, drop_of_length-le, take_all, take_at, drop_at, drop-drop, length-take-le, ext_get_or, get_or-drop, T_not, ltb→lt, nltb→le, le-leb, lt-ltb}
use Rattle.std.proofs.Math.Option.{Option}
use Rattle.std.specs.Int.Signed.{le_z}
use Rattle.lists.specs.Bools.{and_left, and_right, not_not, neither, not_failed, same_test, denied, said}
use Rattle.integers.specs.Parts.{int_rules}
use Rattle.offers.specs.Offers.{between}
use Rattle.plain.specs.Causes.{Cause, cause_number, FirstOf, at_once, further}
use Rattle.plain.specs.Book.{State, no_book_at, part_length}
use Rattle.dynamic.specs.OfferTree.{Held}
use Rattle.table.specs.Fields.{capacity_word, most_slots}
use Rattle.table.specs.Words.{Words, word, up_to, up_to_in}
use Rattle.table.specs.Layout.{cap, fitting}
use Rattle.table.specs.Items.{Item}
use Rattle.form.specs.Form.{Book}
use Rattle.form.specs.Local.{Beyond}
use Rattle.promises.specs.Promises.{part_of, no_book_trial, OnlyPart}
use Rattle.promises.specs.Plainly.{cap_book, book_there}

-- ---- whether there is a book

module _ (t : List ℤ) (start : ℕ) where
  -- the part lent is all that there is from `start` on
  pub whole_part : take (length t - start) (drop start t) ≡ part_of t start
  whole_part = take_all (length t - start) (drop start t) (omega (arith, length-drop start t))

  pub beyond_none : length t < start → ltb (length t) start ≡ no_book_at (length t) start (word (part_of t start) capacity_word)
  beyond_none h = rw (lt-ltb (length t) start h)

-- a word in range, as a number
pub told_is : (z : ℤ) → T (between (pos 1) (pos most_slots) z) → (up_to most_slots z ≡ nat_abs z) × (1 ≤ nat_abs z) × (nat_abs z ≤ most_slots)
told_is (pos n) t =
    let low = and_left (le_z (pos 1) (pos n)) (le_z (pos n) (pos most_slots)) t in
    let high = and_right (le_z (pos 1) (pos n)) (le_z (pos n) (pos most_slots)) t in
    (up_to_in most_slots n (omega (arith, int_rules, high)), omega (arith, int_rules, low), omega (arith, int_rules, high))
told_is (negsuc n) t = absurd (and_left (le_z (pos 1) (negsuc n)) (le_z (negsuc n) (pos most_slots)) t)

-- where there is a book, its part begins within the table
pub book_start : (t : List ℤ) (start : ℕ) {b : Bool} → b ≡ no_book_at (length t) start (word (part_of t start) capacity_word) → b ≡ false → start ≤ length t
book_start t start e h = go (word (part_of t start) capacity_word) (denied e h)
  where
    go : (z : ℤ) → T (not (no_book_at (length t) start z)) → start ≤ length t
    go z k =
        let x = neither (ltb (length t) start || ltb (length t - start) 1_152 || not (between (pos 1) (pos most_slots) z))
        (ltb (length t - start) (part_length (nat_abs z))) k in
        let y = neither (ltb (length t) start || ltb (length t - start) 1_152) (not (between (pos 1) (pos most_slots) z)) x.0 in
        nltb→le (length t) start (neither (ltb (length t) start) (ltb (length t - start) 1_152) y.0).0

-- the capacity told, where the first word is in range and its part is not cut short
capacity_is : (w : Words) (z : ℤ) → word w capacity_word ≡ z → T (between (pos 1) (pos most_slots) z) → part_length (nat_abs z) ≤ length w →
    (cap w ≡ nat_abs z) × (1 ≤ nat_abs z)
unfolding cap
capacity_is w z e t h =
    let (a, b, d) = told_is z t in
    (ap (fitting (length w)) (ap (up_to most_slots) e ∙ a) ∙ rw (le-leb (part_length (nat_abs z)) (length w) h), b)

-- where there is a book, the first word is the capacity
pub book_cap : (t : List ℤ) (start : ℕ) → T (not (no_book_at (length t) start (word (part_of t start) capacity_word))) →
    (cap (part_of t start) ≡ nat_abs (word (part_of t start) capacity_word)) × (1 ≤ nat_abs (word (part_of t start) capacity_word))
book_cap t start h = go (word (part_of t start) capacity_word) refl h
  where
    go : (z : ℤ) → word (part_of t start) capacity_word ≡ z → T (not (no_book_at (length t) start z)) → (cap (part_of t start) ≡ nat_abs z) × (1 ≤ nat_abs z)
    go z e k =
        let x = neither (ltb (length t) start || ltb (length t - start) 1_152 || not (between (pos 1) (pos most_slots) z))
        (ltb (length t - start) (part_length (nat_abs z))) k in
        let y = neither (ltb (length t) start || ltb (length t - start) 1_152) (not (between (pos 1) (pos most_slots) z)) x.0 in
        capacity_is (part_of t start) z e (not_not (between (pos 1) (pos most_slots) z) y.1)
        (omega (arith, length-drop start t, nltb→le (length t - start) (part_length (nat_abs z)) x.1))

-- there is a book just where the words tell a capacity
pub cap_tells : (t : List ℤ) (start : ℕ) {n : ℕ} → n ≡ cap (take (length t - start) (drop start t)) →
    ltb n 1 ≡ no_book_at (length t) start (word (part_of t start) capacity_word)
cap_tells t start {n} e =
    same_test (ltb n 1) no_book_lem
    (λ k. not_failed no_book_lem (λ h. let (p, q) = book_cap t start h in omega (arith, p, q, told, ltb→lt n 1 k)))
    (λ k. not_failed (ltb n 1) (λ h. T_not no_book_lem (cap_book start t (sym told) (nltb→le n 1 h)) k))
  where
    no_book_lem : Bool
    no_book_lem = no_book_at (length t) start (word (part_of t start) capacity_word)

    told : n ≡ cap (part_of t start)
    told = e ∙ ap cap (whole_part t start)

-- where there is none, no part has the form, and the number is 3
module _ (t : List ℤ) (start : ℕ) {no : Bool} (e : no ≡ no_book_at (length t) start (word (part_of t start) capacity_word)) (d : no ≡ true) where
  pub no_form : {plain : State} {held : Option (Held Item)} → Book (part_of t start) plain held → ⊥
  no_form b = T_not (no_book_at (length t) start (word (part_of t start) capacity_word)) (book_there start t b) (said e d)

pub no_book_cause : (t : List ℤ) (start : ℕ) {z : Cause} → FirstOf (no_book_trial t start ∷ []) z → cause_number z ≡ 3
no_book_cause t start (at_once h) = refl
no_book_cause t start (further h f) = elim f [ ]

-- ---- the table when the part comes back

beyond_drop : {c : ℕ} {w w' : Words} → Beyond c w w' → drop (part_length c) w' ≡ drop (part_length c) w
unfolding word
beyond_drop {c} {w} {w'} b =
    ext_get_or (pos 0) _ _ (length-drop (part_length c) w' ∙ ap (λ (n : ℕ). n - part_length c) b.long ∙ sym (length-drop (part_length c) w))
    (λ i h. get_or-drop (part_length c) w' i (pos 0) ∙ b.rest (part_length c + i) (omega arith) ∙ sym (get_or-drop (part_length c) w i (pos 0)))

module _ (t : List ℤ) (start : ℕ) (w' : List ℤ) {t' : List ℤ} (e : t' ≡ take start t ++ w') (h : start ≤ length t) where
  pub part_back : part_of t' start ≡ w'
  part_back = ap (drop start) e ∙ drop_at (take start t) w' start (length-take-le start t h)

  pub only_part : {c : ℕ} → Beyond c (part_of t start) w' → OnlyPart c start t t'
  only_part {c} b =
      record {
        long = ap length e ∙ length-append (take start t) w' ∙ omega (arith, length-take-le start t h, b.long, length-drop start t);
        front = ap (take start) e ∙ take_at (take start t) w' start (length-take-le start t h);
        back = sym (drop-drop (part_length c) start t') ∙ ap (drop (part_length c)) part_back ∙ beyond_drop b ∙ drop-drop (part_length c) start t;
      }

-- the end of the part lent is the table's
pub lent_back : (t : List ℤ) (start : ℕ) (w' : List ℤ) {t' : List ℤ} → t' ≡ take start t ++ (w' ++ drop (length t - start) (drop start t)) →
    t' ≡ take start t ++ w'
lent_back t start w' e = e ∙ ap (λ (u : List ℤ). take start t ++ (w' ++ u)) none_left ∙ ap (λ (u : List ℤ). take start t ++ u) (append_nil w')
  where
    none_left : drop (length t - start) (drop start t) ≡ []
    none_left = drop_of_length-le (drop start t) {i = length t - start} (omega (arith, length-drop start t))

    append_nil : (u : List ℤ) → u ++ [] ≡ u
    append_nil [] = refl
    append_nil (x ∷ xs) = ap (λ (r : List ℤ). x ∷ r) (append_nil xs)

-- no word has changed
pub only_same : {c start : ℕ} {t t' : List ℤ} → t' ≡ t → OnlyPart c start t t'
only_same {c} {start} e = record { long = ap length e; front = ap (take start) e; back = ap (drop (start + part_length c)) e }
