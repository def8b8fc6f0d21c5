-- Answers that decide a statement, and statements of every place of a stretch.
use Rattle.std.specs.Prelude.{◌≡◌, refl, Bool, true, false, List, ℕ, ◌+◌, ◌≤◌, ◌<◌, T, eqb, get_or}
use Rattle.std.proofs.Common.{sym, ◌∙◌, true≢false, arith, eqb-true, eq-eqb}
use Rattle.std.proofs.Math.Decide.{dec_lt}
use Rattle.lists.specs.Bools.{is_true, passed, never}

-- the answer is yes exactly where P holds
pub record Decides (b : Bool) (P : Type 0) : Type 0 where
  pub sound : b ≡ true → P
  pub complete : P → b ≡ true

pub decides_yes : {P : Type 0} → P → Decides true P
decides_yes p = record { sound = λ e. p; complete = λ q. refl }

pub decides_no : {P : Type 0} → (P → ⊥) → Decides false P
decides_no f = record { sound = λ e. absurd (true≢false (sym e)); complete = λ p. absurd (f p) }

-- as another answer does
pub decides_as : {b : Bool} {P Q : Type 0} → (P → Q) → (Q → P) → Decides b P → Decides b Q
decides_as f g d = record { sound = λ e. f (d.sound e); complete = λ q. d.complete (g q) }

pub decides_test : (b : Bool) → Decides b (T b)
decides_test b = record { sound = passed; complete = is_true b }

pub decides_by : {a b : Bool} → a ≡ b → Decides a (T b)
decides_by {a} {b} e = record { sound = λ q. passed (sym e ∙ q); complete = λ t. e ∙ is_true b t }

pub decides_equal : (a b : ℕ) → Decides (eqb a b) (a ≡ b)
decides_equal a b = record { sound = eqb-true a b; complete = eq-eqb a b }

-- a && b as code makes it: b's answer where a's is yes, and a's own where it is no
module _ {a : Bool} {P Q : Type 0} (d : Decides a P) where
  pub decides_also : {b r : Bool} → a ≡ true → Decides b Q → r ≡ b → Decides r (P × Q)
  decides_also t e q = record { sound = λ u. (d.sound t, e.sound (sym q ∙ u)); complete = λ p. q ∙ e.complete p.1 }

  pub decides_stops : {r : Bool} → a ≡ false → r ≡ a → Decides r (P × Q)
  decides_stops f q = record { sound = λ u. absurd (never (sym q ∙ u) f); complete = λ p. q ∙ d.complete p.0 }

-- ---- every place

pub record Every (P : ℕ → Type 0) (a b : ℕ) : Type 0 where
  pub at : (k : ℕ) → a ≤ k → k < b → P k

module _ {P : ℕ → Type 0} where
  pub every_more : {a i : ℕ} → Every P a i → P i → Every P a (i + 1)
  every_more {a} {i} e p = record { at = λ k l m. go k l (dec_lt k i) m }
    where
      go : (k : ℕ) → a ≤ k → Dec (k < i) → k < i + 1 → P k
      go k l (yes h) m = e.at k l h
      go k l (no h) m = let q : k ≡ i = omega arith in rw q p

-- ---- two stretches

-- their entries are the same
abbrev pub Agree : List ℕ → ℕ → ℕ → ℕ → Type 0
Agree xs a b n = Every (λ k. get_or xs (a + k) 0 ≡ get_or xs (b + k) 0) 0 n
