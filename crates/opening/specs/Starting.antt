-- An empty book is laid out: the header's words, then the slots, each free and followed by the next, then the memory; words past the part stay.
use Rattle.std.specs.Prelude.{◌≡◌, refl, ◌≢◌, [], ℕ, suc, ◌≤◌, ◌<◌, length, ℤ, pos}
use Rattle.std.proofs.Common.{sym, ◌∙◌, ap, subst, arith}
use Rattle.std.proofs.Math.Option.{none}
use Rattle.plain.specs.Book.{opened, part_length}
use Rattle.table.specs.Fields.{capacity_word, envelope_root_word, first_free_word, live_count_word, most_slots, next_free_field, number_field, numbers_root_word}
use Rattle.table.specs.Fields.{offers_root_word, order_root_word}
use Rattle.table.specs.Words.{Words, word, wset, wset_length, wset_other}
use Rattle.table.specs.Layout.{cap, cset, beyond_outside}
use Rattle.form.specs.Form.{Book, Form}
use Rattle.form.specs.Local.{Beyond, AlikeOffers}
use Rattle.form.proofs.Local.{book_alike}
use Rattle.memory.specs.Ring.{Emptying}
use Rattle.opening.specs.Laying.{Begun, begun, begun_cap, Laid, laid_more, opened_book}

-- ---- the header

-- seven words at the front are written
pub record Heading (c : ℕ) (w w' : Words) : Type 0 where
  pub long : length w' ≡ length w
  pub rest : (i : ℕ) → order_root_word < i → word w' i ≡ word w i
  pub begins : 1 ≤ c → c ≤ most_slots → part_length c ≤ length w → Begun c w'

after : (w w' : Words) (i : ℕ) (z : ℤ) → w' ≡ wset w i z → (j : ℕ) → j ≢ i → word w' j ≡ word w j
after w w' i z e j h = ap (λ (v : Words). word v j) e ∙ wset_other w i j z h

pub heading :
    (w w₀ w₁ w₂ w₃ w₄ w₅ w₆ : Words) (c : ℕ) →
    w₀ ≡ wset w capacity_word (pos c) → w₁ ≡ wset w₀ offers_root_word (pos 0) → w₂ ≡ wset w₁ envelope_root_word (pos 0) → w₃ ≡ wset w₂ live_count_word (pos 0) →
    w₄ ≡ wset w₃ numbers_root_word (pos 0) → w₅ ≡ wset w₄ first_free_word (pos 1) → w₆ ≡ wset w₅ order_root_word (pos 0) →
    Heading c w w₆
heading w w₀ w₁ w₂ w₃ w₄ w₅ w₆ c e₀ e₁ e₂ e₃ e₄ e₅ e₆ =
    record {
      long = ap length e₆ ∙ wset_length w₅ order_root_word (pos 0) ∙ ap length e₅ ∙ wset_length w₄ first_free_word (pos 1) ∙ ap length e₄
          ∙ wset_length w₃ numbers_root_word (pos 0) ∙ ap length e₃ ∙ wset_length w₂ live_count_word (pos 0) ∙ ap length e₂
          ∙ wset_length w₁ envelope_root_word (pos 0) ∙ ap length e₁ ∙ wset_length w₀ offers_root_word (pos 0)
          ∙ ap length e₀ ∙ wset_length w capacity_word (pos c);
      rest = λ i h. after w₅ w₆ order_root_word (pos 0) e₆ i (λ q. omega (arith, q, h)) ∙ after w₄ w₅ first_free_word (pos 1) e₅ i (λ q. omega (arith, q, h))
          ∙ after w₃ w₄ numbers_root_word (pos 0) e₄ i (λ q. omega (arith, q, h)) ∙ after w₂ w₃ live_count_word (pos 0) e₃ i (λ q. omega (arith, q, h))
          ∙ after w₁ w₂ envelope_root_word (pos 0) e₂ i (λ q. omega (arith, q, h)) ∙ after w₀ w₁ offers_root_word (pos 0) e₁ i (λ q. omega (arith, q, h))
          ∙ after w w₀ capacity_word (pos c) e₀ i (λ q. omega (arith, q, h));
      begins = λ low high room. begun w low high room e₀ e₁ e₂ e₃ e₄ e₅ e₆;
    }

-- ---- the slots

-- slots 1 to n are laid, where the words tell capacity c
pub record Laying (c n : ℕ) (w w' : Words) : Type 0 where
  pub long : length w' ≡ length w
  pub few : n < c
  pub lays : cap w ≡ c → Laid c n w w'

pub record Lays (c : ℕ) (w w' : Words) : Type 0 where
  pub long : length w' ≡ length w
  pub lays : cap w ≡ c → Laid c c w w'

pub laying_more : {c n s next : ℕ} {w w₀ w₁ w₂ : Words} → Laying c n w w₀ → s ≡ suc n → s < c → next ≡ suc s → length w₁ ≡ length w₀ →
    length w₂ ≡ length w₁ → w₁ ≡ cset w₀ number_field s (pos 0) → w₂ ≡ cset w₁ next_free_field s (pos next) → Laying c s w w₂
laying_more {c} {n} {s} {next} {w} {w₀} {w₁} {w₂} l es h en n₁ n₂ e₁ e₂ =
    record {
      long = n₂ ∙ n₁ ∙ l.long;
      few = h;
      lays = λ fits. subst (λ (i : ℕ). Laid c i w w₂) (sym es)
          (laid_more fits (l.lays fits) l.few (e₁ ∙ ap (λ (i : ℕ). cset w₀ number_field i (pos 0)) es)
          (e₂ ∙ ap (λ (i : ℕ). cset w₁ next_free_field i (pos next)) es) (λ q. en ∙ ap suc es) (λ q. absurd (omega (arith, q, es, h))));
    }

pub laying_last : {c n : ℕ} {w w₀ w₁ w₂ : Words} → Laying c n w w₀ → c ≤ suc n → length w₁ ≡ length w₀ → length w₂ ≡ length w₁ →
    w₁ ≡ cset w₀ number_field c (pos 0) → w₂ ≡ cset w₁ next_free_field c (pos 0) → Lays c w w₂
laying_last {c} {n} {w} {w₀} {w₁} {w₂} l h n₁ n₂ e₁ e₂ =
    record {
      long = n₂ ∙ n₁ ∙ l.long;
      lays = λ fits. subst (λ (i : ℕ). Laid c i w w₂) (sym es)
          (laid_more fits (l.lays fits) l.few (e₁ ∙ ap (λ (i : ℕ). cset w₀ number_field i (pos 0)) es)
          (e₂ ∙ ap (λ (i : ℕ). cset w₁ next_free_field i (pos 0)) es) (λ q. absurd (omega (arith, q, es))) (λ q. refl));
    }
  where
    es : c ≡ suc n
    es = omega (arith, h, l.few)

-- ---- both, on a part

pub record Starts (c : ℕ) (w w' : Words) : Type 0 where
  pub stands : Form w' (opened (pos c)) none
  pub beyond : Beyond c w w'

pub starts : {c : ℕ} {w w₀ w₁ w' : Words} → 1 ≤ c → c ≤ most_slots → part_length c ≤ length w → Heading c w w₀ → Lays c w₀ w₁ → Emptying w₁ w' → Starts c w w'
starts {c} {w} {w₀} {w₁} {w'} low high room g l m =
    record {
      stands =
          record {
            book = book_alike [] book (subst (λ (n : ℕ). AlikeOffers n w₁ w') book.capacity m.only.offers);
            memory = record { ring = m.ring (omega (arith, low, book.capacity)); undoable = tt };
          };
      beyond = record {
        long = m.only.offers.long ∙ l.long ∙ g.long;
        rest = λ i h. m.only.beyond i (omega (arith, h, book.capacity)) ∙ laid.within.rest i (beyond_outside w₀ (omega (arith, h, begun_cap b)))
            ∙ g.rest i (omega arith);
      };
    }
  where
    b : Begun c w₀
    b = g.begins low high room

    laid : Laid c c w₀ w₁
    laid = l.lays (begun_cap b)

    book : Book w₁ (opened (pos c)) none
    book = opened_book b laid
