-- What the answers' functions do, case by case.
use Rattle.std.specs.Prelude.{◌≡◌, refl, Bool, true, false, List, [], ◌∷◌, ℕ, zero, suc, ◌≤◌, ◌<◌, length, set, drop, ℤ, pos, negsuc, neg_ℤ, ◌-ℤ◌, Result}
use Rattle.std.proofs.Common.{sym, subst, true≢false, arith, ltb-false, SFits}
use Rattle.std.proofs.Math.IntN.{+ℤ_idl}
use Rattle.std.specs.Int.Signed.{lt_z}
use Rattle.std.specs.Int.{w64}
use Rattle.plain.specs.Book.{Call}
use Rattle.causes.specs.declared.Declined.{Declined}
use Rattle.promises.specs.Promises.{Updates, Checks}
use Rattle.promises.specs.declared.Update.{Update}
use Rattle.reading.specs.Promises.{told}
use Rattle.answers.specs.Promises.{refusal, too_short, over, Tells, Lent, update_number, counts_of, Updated, Checked}
use Rattle.answers.specs.Promises.{place_of, place_number, piece_of, Step, Steps, Pieced}

-- ---- a cause, below 0

pub record Flips (z : ℤ) : Type 0 where
  pub fits : SFits w64 (pos 0 -ℤ z)
  pub value : pos 0 -ℤ z ≡ refusal z

fits_below : (n : ℕ) → SFits w64 (pos n) → SFits w64 (neg_ℤ (pos n))
fits_below zero f = omega arith
fits_below (suc n) f = omega arith

pub flips : (z : ℤ) → SFits w64 z → lt_z (pos 0) z ≡ true → Flips z
flips (pos n) f e = record { fits = rw (+ℤ_idl (neg_ℤ (pos n))) (fits_below n f); value = +ℤ_idl (neg_ℤ (pos n)) }
flips (negsuc n) f e = absurd (true≢false (sym e))

pub stays : (z : ℤ) → lt_z (pos 0) z ≡ false → z ≡ refusal z
stays (pos zero) e = refl
stays (pos (suc n)) e = absurd (omega (arith, ltb-false 0 (suc n) e))
stays (negsuc n) e = refl

-- ---- values over the first words

module _ {A : Type 0} where
  pub longer : (ws : List A) → 2 ≤ length ws → 1 ≤ length ws
  longer ws h = omega arith

  pub one : (ws : List A) (a : A) → 1 ≤ length ws → set ws 0 a ≡ a ∷ drop 1 ws
  one [] a h = absurd (omega arith)
  one (x ∷ ws) a h = refl

  pub two : (ws : List A) (a b : A) → 2 ≤ length ws → set (set ws 0 a) 1 b ≡ a ∷ b ∷ drop 2 ws
  two [] a b h = absurd (omega arith)
  two (x ∷ []) a b h = absurd (omega arith)
  two (x ∷ y ∷ ws) a b h = refl

  pub three : (ws : List A) (a b c : A) → 3 ≤ length ws → set (set (set ws 0 a) 1 b) 2 c ≡ a ∷ b ∷ c ∷ drop 3 ws
  three [] a b c h = absurd (omega arith)
  three (x ∷ []) a b c h = absurd (omega arith)
  three (x ∷ y ∷ []) a b c h = absurd (omega arith)
  three (x ∷ y ∷ z ∷ ws) a b c h = refl

  pub four : (ws : List A) (a b c d : A) → 4 ≤ length ws → set (set (set (set ws 0 a) 1 b) 2 c) 3 d ≡ a ∷ b ∷ c ∷ d ∷ drop 4 ws
  four [] a b c d h = absurd (omega arith)
  four (x ∷ []) a b c d h = absurd (omega arith)
  four (x ∷ y ∷ []) a b c d h = absurd (omega arith)
  four (x ∷ y ∷ z ∷ []) a b c d h = absurd (omega arith)
  four (x ∷ y ∷ z ∷ u ∷ ws) a b c d h = refl

-- ---- a call that tells its answer

-- an answer of the case e, whose number and values are there
pub tells : {A B : Type 0} (number_of : B → ℤ) (values_of : B → List A) {b b' : B} {out out' : List A} {r : ℤ}
    → b ≡ b' → r ≡ number_of b' → out' ≡ over (values_of b') out → Tells (number_of b) (values_of b) out out' r
tells number_of values_of e n w = rw e (record { number = n; words = w })

module _ {A B : Type 0} (room : ℕ) (Keeps : B → Type 0) (number_of : B → ℤ) (values_of : B → List A) where
  pub lent_short : {out : List A} → length out < room → Lent room Keeps number_of values_of out out too_short
  lent_short h = record { short = λ _. (refl, refl); long = λ g. absurd (omega arith) }

  pub lent_long : {out out' : List A} {r : ℤ} → room ≤ length out → (b : B) → Keeps b → Tells (number_of b) (values_of b) out out' r
      → Lent room Keeps number_of values_of out out' r
  lent_long h b p q = record { short = λ g. absurd (omega arith); long = λ _. (b, p, q) }

module _ (k : Call) (start : ℕ) (t : List ℤ) where
  pub updated_short : {counts : List ℤ} → length counts < 3 → Updated k start t t counts counts too_short
  updated_short h = record { lent = lent_short 3 (Updates k start t t) update_number counts_of h; still = λ _. refl }

  pub updated_long : {t' counts counts' : List ℤ} {r : ℤ} → 3 ≤ length counts → (u : Result Update Declined) → Updates k start t t' u
      → Tells (update_number u) (counts_of u) counts counts' r → Updated k start t t' counts counts' r
  updated_long {t'} h u p q = record { lent = lent_long 3 (Updates k start t t') update_number counts_of h u p q; still = λ g. absurd (omega arith) }

-- ---- a reading's step

pub pieced_long : (start : ℕ) (t : List ℤ) (place : ℤ) {out out' : List ℤ} {r : ℤ} {at : ℕ} → at ≡ place_of place → 3 ≤ length out
    → (s : Step) → Steps start t at s → Tells (place_number s.next (told s.handed)) (piece_of (told s.handed)) out out' r →
    Pieced start t place out out' r
pieced_long start t place e h s p q =
    lent_long 3 (Steps start t (place_of place)) (λ x. place_number x.next (told x.handed)) (λ x. piece_of (told x.handed)) h s
    (subst (λ (i : ℕ). Steps start t i s) e p) q

-- ---- a check's answer

pub checked_yes : (start : ℕ) (t : List ℤ) (b : Bool) → Checks start t b → b ≡ true → Checked start t (pos 1)
checked_yes start t b p e = record { passes = b; checks = p; number = rw e }

pub checked_no : (start : ℕ) (t : List ℤ) (b : Bool) → Checks start t b → b ≡ false → Checked start t (pos 0)
checked_no start t b p e = record { passes = b; checks = p; number = rw e }
