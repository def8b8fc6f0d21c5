-- The first slot of each rate, by one pass, and whether they are the slots of another stretch.
use Rattle.std.specs.Prelude.{◌≡◌, refl, ◌≢◌, Bool, true, false, ℕ, zero, suc, ◌+◌, ◌≤◌, ◌<◌, eqb, get_or}
use Rattle.std.proofs.Math.Path.{sym, ap}
use Rattle.std.proofs.Common.{◌∙◌, arith}
use Rattle.std.proofs.Math.Bool.{cond}
use mathlib.Core.List.{List, [], ◌∷◌}
use Rattle.std.proofs.Math.ListN.{length}
use Rattle.std.specs.Int.Signed.{lt_z}
use borrow.Author.Tests.{eqb-true, eq-eqb}
use Rattle.table.specs.Fields.{rate_field}
use Rattle.table.specs.Words.{Words}
use Rattle.table.specs.Layout.{cell}
use Rattle.check_trees.specs.Scratch.{second_half}
use Rattle.check_trees.specs.Stretches.{span, span_cons, span_none, span_length}
use Rattle.check_trees.specs.Deciding.{Decides, decides_no}

-- s begins a new rate behind slot p; every rate is new behind 0, which is no slot
unfoldable pub new_rate : Words → ℕ → ℕ → Bool
new_rate w zero s = true
new_rate w (suc p) s = lt_z (cell w rate_field s) (cell w rate_field (suc p))

pub new_first : (w : Words) (p s : ℕ) → p < 1 → true ≡ new_rate w p s
unfolding new_rate
new_first w zero s h = refl
new_first w (suc p) s h = absurd (omega arith)

pub new_later : (w : Words) (p s : ℕ) {b : Bool} → 1 ≤ p → b ≡ lt_z (cell w rate_field s) (cell w rate_field p) → b ≡ new_rate w p s
unfolding new_rate
new_later w zero s h e = absurd (omega arith)
new_later w (suc p) s h e = e

-- those of ss that begin a new rate, where p is the last slot that did
unfoldable pub head_slots : Words → ℕ → List ℕ → List ℕ
head_slots w p [] = []
head_slots w p (s ∷ ss) = cond (new_rate w p s) (s ∷ head_slots w s ss) (head_slots w p ss)

-- m slots of the first half are the first of each rate of n slots of the second half
abbrev pub Heads : Words → List ℕ → ℕ → ℕ → Type 0
Heads w xs m n = span xs 0 m ≡ head_slots w 0 (span xs second_half (second_half + n))

-- ---- the loop

-- what is left to compare, from places j and i on, decides the whole
pub record Ongoing (w : Words) (xs : List ℕ) (m n j i p : ℕ) : Type 0 where
  pub within : j ≤ m
  pub to : Heads w xs m n → span xs j m ≡ head_slots w p (span xs (second_half + i) (second_half + n))
  pub from : span xs j m ≡ head_slots w p (span xs (second_half + i) (second_half + n)) → Heads w xs m n

pub begins : (w : Words) (xs : List ℕ) (m n : ℕ) → Ongoing w xs m n 0 0 0
begins w xs m n = record { within = omega arith; to = λ e. e; from = λ e. e }

heads_same : {a b : ℕ} {as' bs : List ℕ} → a ∷ as' ≡ b ∷ bs → a ≡ b
heads_same q = cc

tails_same : {a b : ℕ} {as' bs : List ℕ} → a ∷ as' ≡ b ∷ bs → as' ≡ bs
tails_same q = cc

module _ {w : Words} {xs : List ℕ} {m n j i p : ℕ} (g : Ongoing w xs m n j i p) where
  module _ {s : ℕ} (more : i < n) (here : s ≡ get_or xs (second_half + i) 0) where
    -- the slots behind s
    abbrev later : List ℕ
    later = span xs (second_half + (i + 1)) (second_half + n)

    front : span xs (second_half + i) (second_half + n) ≡ s ∷ later
    front =
        span_cons xs (second_half + i) (second_half + n) (omega arith)
        ∙ (let q : suc (second_half + i) ≡ second_half + (i + 1) = omega arith in rw (q, here))

    step : {b : Bool} → new_rate w p s ≡ b → head_slots w p (span xs (second_half + i) (second_half + n)) ≡ cond b (s ∷ head_slots w s later) (head_slots w p later)
    unfolding head_slots
    step e = ap (head_slots w p) front ∙ ap (λ (b : Bool). cond b (s ∷ head_slots w s later) (head_slots w p later)) e

    pub goes_on : new_rate w p s ≡ false → Ongoing w xs m n j (i + 1) p
    goes_on e = record { within = g.within; to = λ h. g.to h ∙ step e; from = λ h. g.from (h ∙ sym (step e)) }

    pub goes_new : new_rate w p s ≡ true → j < m → get_or xs j 0 ≡ s → Ongoing w xs m n (j + 1) (i + 1) s
    goes_new e room same =
        record {
          within = omega arith;
          to = λ h. tails_same (sym shape ∙ g.to h ∙ step e);
          from = λ h. g.from (shape ∙ ap (λ (l : List ℕ). s ∷ l) h ∙ sym (step e));
        }
      where
        shape : span xs j m ≡ s ∷ span xs (j + 1) m
        shape = span_cons xs j m room ∙ (let q : suc j ≡ j + 1 = omega arith in rw (q, same))

    -- no leaf is left for this rate
    pub refused_room : new_rate w p s ≡ true → m ≤ j → Decides false (Heads w xs m n)
    refused_room e full =
        decides_no (λ h. let q : length (span xs j m) ≡ suc (length (head_slots w s later)) = ap length (g.to h ∙ step e) in omega (arith, span_length xs j m))

    pub refused_other : new_rate w p s ≡ true → j < m → get_or xs j 0 ≢ s → Decides false (Heads w xs m n)
    refused_other e room other = decides_no (λ h. other (heads_same (sym (span_cons xs j m room) ∙ g.to h ∙ step e)))

  -- the order is seen: no leaf may be left
  pub ends : n ≤ i → Decides (eqb j m) (Heads w xs m n)
  unfolding head_slots
  ends over =
      record {
        sound = λ e. g.from (span_none xs j m (omega (arith, eqb-true j m e)) ∙ sym none);
        complete = λ h. eq-eqb j m (let q = ap length (g.to h ∙ none) in omega (arith, span_length xs j m, g.within));
      }
    where
      none : head_slots w p (span xs (second_half + i) (second_half + n)) ≡ []
      none = ap (head_slots w p) (span_none xs (second_half + i) (second_half + n) (omega arith))
