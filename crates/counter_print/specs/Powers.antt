-- The table of powers of ten that printing subtracts, and its rule.
use Rattle.std.specs.Prelude.{ℕ, zero, suc, ◌*◌, ◌^◌, ◌<◌, ◌≡◌, refl, Bool, true, ◌&&◌, List, [], ◌∷◌, T, eqb, length, get_or}
use Rattle.std.proofs.Common.{◌∙◌, pow-suc, arith, eqb→eq}
use Rattle.std.proofs.Math.Nat.{pow-zero}
use Rattle.lists.specs.Bools.{and_left, and_right}

-- So many digits are enough for every signed word: 2^63 has so many.
abbrev pub most_digits : ℕ
most_digits = 19

-- The first entry is 1, and each other ten times the one before: a power for each digit.
pub record PowersOfTen (table : List ℕ) : Type 0 where
  pub size : length table ≡ most_digits
  pub first : get_or table 0 0 ≡ 1
  pub next : (i : ℕ) → suc i < length table → get_or table (suc i) 0 ≡ 10 * get_or table i 0

pub power_at : {table : List ℕ} → PowersOfTen table → (place : ℕ) → place < length table → get_or table place 0 ≡ 10 ^ place
power_at p zero h = p.first ∙ omega (arith, pow-zero 10)
power_at p (suc i) h = omega (arith, p.next i h, power_at p i (omega arith), pow-suc 10 i)

-- ---- the rule of a table, by one test over all of it

abbrev pub tenfold : ℕ → List ℕ → Bool
tenfold p [] = true
tenfold p (q ∷ t) = eqb q (10 * p) && tenfold q t

tenfold_next : (p : ℕ) (t : List ℕ) → T (tenfold p t) → (i : ℕ) → i < length t → get_or t i 0 ≡ 10 * get_or (p ∷ t) i 0
tenfold_next p [] h i l = absurd (omega arith)
tenfold_next p (q ∷ t) h zero l = eqb→eq q (10 * p) (and_left (eqb q (10 * p)) (tenfold q t) h)
tenfold_next p (q ∷ t) h (suc i) l = tenfold_next q t (and_right (eqb q (10 * p)) (tenfold q t) h) i (omega arith)

pub powers_rule : (t : List ℕ) → length (1 ∷ t) ≡ most_digits → T (tenfold 1 t) → PowersOfTen (1 ∷ t)
powers_rule t e h = record { size = e; first = refl; next = λ i l. tenfold_next 1 t h i (omega arith) }
