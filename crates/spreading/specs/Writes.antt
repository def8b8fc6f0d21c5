-- The words of the offers in a list of slots, written one behind the other.
use Rattle.std.specs.Prelude.{◌≡◌, refl, List, [], ◌∷◌, ◌++◌, map, ℕ, suc, ◌+◌, ◌*◌, ◌≤◌, ◌<◌, length, get_or, drop, ℤ}
use Rattle.std.proofs.Common.{sym, ◌∙◌, ap, add-one, arith}
use mathlib.Core.List.Memᴰ
use Rattle.plain.specs.Book.{offer_words}
use Rattle.table.specs.Fields.{base_field, most_slots, number_field, rate_field}
use Rattle.table.specs.Words.{Words, wset, wset_length}
use Rattle.table.specs.Layout.{cell}
use Rattle.table.specs.Items.{Item, offer_of, slot_of}
use Rattle.table.specs.Threads.{Holds, holds_right}
use Rattle.listing.specs.Listing.{three_words}
use Rattle.check_trees.specs.Stretches.{span, span_length, span_none, span_cut, span_one}

-- number, rate, base a slot
abbrev pub slot_words : Words → List ℕ → List ℤ
slot_words w [] = []
slot_words w (s ∷ ss) = cell w number_field s ∷ cell w rate_field s ∷ cell w base_field s ∷ slot_words w ss

words_append : (w : Words) (xs ys : List ℕ) → slot_words w (xs ++ ys) ≡ slot_words w xs ++ slot_words w ys
words_append w [] ys = refl
words_append w (s ∷ xs) ys = ap (λ (l : List ℤ). cell w number_field s ∷ cell w rate_field s ∷ cell w base_field s ∷ l) (words_append w xs ys)

words_length : (w : Words) (xs : List ℕ) → length (slot_words w xs) ≡ 3 * length xs
words_length w [] = refl
words_length w (s ∷ xs) = omega (arith, words_length w xs)

-- where the slots hold their offers, these are the offers' words
pub held_words : {w : Words} (xs : List Item) → Holds w xs → slot_words w (map slot_of xs) ≡ offer_words (map offer_of xs)
held_words [] h = refl
held_words {w} (a ∷ xs) h =
    let k = h.held (Memᴰ.head refl) in
    rw (k.number, k.rate, k.base)
    (ap (λ (l : List ℤ). a.offer.number ∷ a.offer.rate ∷ a.offer.base ∷ l) (held_words xs (holds_right (a ∷ []) h)))

-- ---- one offer

-- the three words of the offer in slot s, from place k on
abbrev pub offer_at : Words → ℕ → List ℤ → ℕ → List ℤ
offer_at w s out k = wset (wset (wset out k (cell w number_field s)) (k + 1) (cell w rate_field s)) (k + 2) (cell w base_field s)

pub offer_put :
    (w : Words) (s : ℕ) (out : List ℤ) (k : ℕ) {x y z : ℤ} {out₁ out₂ out₃ : List ℤ} → x ≡ cell w number_field s → y ≡ cell w rate_field s →
    z ≡ cell w base_field s → out₁ ≡ wset out k x → out₂ ≡ wset out₁ (k + 1) y → out₃ ≡ wset out₂ (k + 2) z → out₃ ≡ offer_at w s out k
offer_put w s out k ex ey ez e₁ e₂ e₃ = rw (e₃, e₂, e₁, ex, ey, ez)

-- ---- all of them

-- the promise: where the output is too short, all of it stays; else the words of the first n slots, and later ones stay
pub record Copied (w : Words) (xs : List ℕ) (n : ℕ) (out out' : List ℤ) : Type 0 where
  pub long : length out' ≡ length out
  pub short : length out < 3 * n → out' ≡ out
  pub words : 3 * n ≤ length out → out' ≡ slot_words w (span xs 0 n) ++ drop (3 * n) out

pub copied_short : {w : Words} {xs : List ℕ} {n : ℕ} {out : List ℤ} → length out < 3 * n → Copied w xs n out out
copied_short h = record { long = refl; short = λ k. refl; words = λ k. absurd (omega arith) }

-- i offers are written
pub record Copying (w : Words) (xs : List ℕ) (n : ℕ) (base : List ℤ) (i : ℕ) (out : List ℤ) : Type 0 where
  pub within : i ≤ n
  pub long : length out ≡ length base
  pub now : out ≡ slot_words w (span xs 0 i) ++ drop (3 * i) base

pub copying_begins : (w : Words) (xs : List ℕ) (n : ℕ) (base : List ℤ) → Copying w xs n base 0 base
copying_begins w xs n base =
    record { within = omega arith; long = refl; now = ap (λ (l : List ℕ). slot_words w l ++ drop 0 base) (sym (span_none xs 0 0 (omega arith))) }

module _ {w : Words} {xs : List ℕ} {n i : ℕ} {base out : List ℤ} (room : 3 * n ≤ length base) (h : Copying w xs n base i out) where
  pub copying_goes_on : {s : ℕ} {out' : List ℤ} → n ≤ most_slots → i < n → (i < most_slots → s ≡ get_or xs i 0) → out' ≡ offer_at w s out (3 * i) →
      Copying w xs n base (i + 1) out'
  copying_goes_on {s} {out'} few more es e =
      record {
        within = omega arith;
        long = ap length e ∙ wset_length _ _ _ ∙ wset_length _ _ _ ∙ wset_length _ _ _ ∙ h.long;
        now = e
            ∙ ap (λ (o : List ℤ). offer_at w s o (3 * i)) h.now
            ∙ three_words (slot_words w (span xs 0 i)) base (3 * i) (cell w number_field s) (cell w rate_field s) (cell w base_field s)
            (omega (arith, words_length w (span xs 0 i), span_length xs 0 i)) (omega arith)
            ∙ ap (λ (k : ℕ). (slot_words w (span xs 0 i) ++ slot_words w (s ∷ [])) ++ drop k base) three
            ∙ ap (λ (l : List ℤ). l ++ drop (3 * (i + 1)) base) (sym grown);
      }
    where
      three : 3 * i + 3 ≡ 3 * (i + 1)
      three = omega arith

      one : span xs i (suc i) ≡ s ∷ []
      one = span_one xs i ∙ ap (λ (z : ℕ). z ∷ []) (sym (es (omega arith)))

      grown : slot_words w (span xs 0 (i + 1)) ≡ slot_words w (span xs 0 i) ++ slot_words w (s ∷ [])
      grown =
          ap (slot_words w) (ap (span xs 0) (add-one i) ∙ span_cut xs 0 i (suc i) (omega arith) (omega arith) ∙ ap (λ (l : List ℕ). span xs 0 i ++ l) one)
          ∙ words_append w (span xs 0 i) (s ∷ [])

  pub copying_ends : n ≤ i → Copied w xs n base out
  copying_ends f =
      let d : i ≡ n = omega (arith, h.within) in
      record {
        long = h.long;
        short = λ k. absurd (omega arith);
        words = λ k. h.now ∙ ap (λ (j : ℕ). slot_words w (span xs 0 j) ++ drop (3 * j) base) d;
      }
