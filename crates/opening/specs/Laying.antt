-- Laying out a book: the header's words, and then each slot free and followed by the next. The part stands for a book with no offers.
use Rattle.std.specs.Prelude.{◌≡◌, refl, ◌≢◌, ℕ, zero, suc, ◌+◌, ◌≤◌, ◌<◌, length, ℤ, pos}
use Rattle.std.proofs.Common.{sym, ◌∙◌, ap, arith, le-leb}
use mathlib.Core.HLevel.{¬_prop}
use mathlib.Core.List.{List, [], ◌∷◌, Memᴰ, Pairwise}
use Rattle.std.proofs.Math.Option.{none}
use Rattle.std.proofs.Math.Decide.{dec_le}
use Rattle.lists.specs.Members.{pairs_cons}
use Rattle.plain.specs.Book.{opened, part_length}
use Rattle.table.specs.Fields.{capacity_word, envelope_root_word, first_free_word, live_count_word, most_slots, next_free_field, number_field, numbers_root_word}
use Rattle.table.specs.Fields.{offers_root_word, order_root_word}
use Rattle.table.specs.Words.{Words, word, wset, wset_length, wset_same, wset_other, up_to, up_to_in}
use Rattle.table.specs.Layout.{cap, fitting, cell, cset, Valid, cset_same}
use Rattle.table.proofs.LayoutLaws.{cset_other}
use Rattle.table.specs.Rep.{Within, within_cap, within_refl, within_trans, within_cset, header_kept}
use Rattle.table.specs.Items.{Item, slots_none}
use Rattle.form.specs.Form.{Book, IndexIn, FreeChain, free_none, free_more, head0}

-- ---- the header

pub record Begun (c : ℕ) (w : Words) : Type 0 where
  pub low : 1 ≤ c
  pub high : c ≤ most_slots
  pub room : part_length c ≤ length w
  pub first : word w capacity_word ≡ pos c
  pub offers_root : word w offers_root_word ≡ pos 0
  pub envelope_root : word w envelope_root_word ≡ pos 0
  pub live_count : word w live_count_word ≡ pos 0
  pub numbers_root : word w numbers_root_word ≡ pos 0
  pub first_free : word w first_free_word ≡ pos 1
  pub order_root : word w order_root_word ≡ pos 0

-- one word written
record Written (i : ℕ) (z : ℤ) (w w' : Words) : Type 0 where
  long : length w' ≡ length w
  same : i < length w → word w' i ≡ z
  other : (j : ℕ) → j ≢ i → word w' j ≡ word w j

written : (w : Words) (i : ℕ) (z : ℤ) {w' : Words} → w' ≡ wset w i z → Written i z w w'
written w i z e =
    record {
      long = ap length e ∙ wset_length w i z;
      same = λ h. ap (λ (v : Words). word v i) e ∙ wset_same w i z h;
      other = λ j h. ap (λ (v : Words). word v j) e ∙ wset_other w i j z h;
    }

pub begun :
    (w : Words) {w₀ w₁ w₂ w₃ w₄ w₅ w₆ : Words} {c : ℕ} → 1 ≤ c → c ≤ most_slots → part_length c ≤ length w →
    w₀ ≡ wset w capacity_word (pos c) → w₁ ≡ wset w₀ offers_root_word (pos 0) → w₂ ≡ wset w₁ envelope_root_word (pos 0) → w₃ ≡ wset w₂ live_count_word (pos 0) →
    w₄ ≡ wset w₃ numbers_root_word (pos 0) → w₅ ≡ wset w₄ first_free_word (pos 1) → w₆ ≡ wset w₅ order_root_word (pos 0) →
    Begun c w₆
begun w {w₀} {w₁} {w₂} {w₃} {w₄} {w₅} {w₆} {c} low high room e₀ e₁ e₂ e₃ e₄ e₅ e₆ =
    let s₀ = written w capacity_word (pos c) e₀ in
    let s₁ = written w₀ offers_root_word (pos 0) e₁ in
    let s₂ = written w₁ envelope_root_word (pos 0) e₂ in
    let s₃ = written w₂ live_count_word (pos 0) e₃ in
    let s₄ = written w₃ numbers_root_word (pos 0) e₄ in
    let s₅ = written w₄ first_free_word (pos 1) e₅ in
    let s₆ = written w₅ order_root_word (pos 0) e₆ in
    record {
      low = low;
      high = high;
      room = omega arith;
      first = s₆.other capacity_word (omega arith) ∙ s₅.other capacity_word (omega arith) ∙ s₄.other capacity_word (omega arith)
          ∙ s₃.other capacity_word (omega arith) ∙ s₂.other capacity_word (omega arith) ∙ s₁.other capacity_word (omega arith) ∙ s₀.same (omega arith);
      offers_root = s₆.other offers_root_word (omega arith) ∙ s₅.other offers_root_word (omega arith) ∙ s₄.other offers_root_word (omega arith)
          ∙ s₃.other offers_root_word (omega arith) ∙ s₂.other offers_root_word (omega arith) ∙ s₁.same (omega arith);
      envelope_root = s₆.other envelope_root_word (omega arith) ∙ s₅.other envelope_root_word (omega arith) ∙ s₄.other envelope_root_word (omega arith)
          ∙ s₃.other envelope_root_word (omega arith) ∙ s₂.same (omega arith);
      live_count = s₆.other live_count_word (omega arith) ∙ s₅.other live_count_word (omega arith) ∙ s₄.other live_count_word (omega arith)
          ∙ s₃.same (omega arith);
      numbers_root = s₆.other numbers_root_word (omega arith) ∙ s₅.other numbers_root_word (omega arith) ∙ s₄.same (omega arith);
      first_free = s₆.other first_free_word (omega arith) ∙ s₅.same (omega arith);
      order_root = s₆.same (omega arith);
    }

pub begun_cap : {c : ℕ} {w : Words} → Begun c w → cap w ≡ c
unfolding cap
begun_cap {c} {w} b = ap (fitting (length w)) (ap (up_to most_slots) b.first ∙ up_to_in most_slots c b.high) ∙ rw (le-leb (part_length c) (length w) b.room)

-- ---- the slots, one after another

-- slots 1 to n are free, each followed by the next, and the last of all by none
pub record Laid (c n : ℕ) (w w' : Words) : Type 0 where
  pub within : Within w w'
  pub number : (s : ℕ) → 1 ≤ s → s ≤ n → cell w' number_field s ≡ pos 0
  pub next : (s : ℕ) → 1 ≤ s → s ≤ n → s < c → cell w' next_free_field s ≡ pos (suc s)
  pub end : (s : ℕ) → 1 ≤ s → s ≤ n → s ≡ c → cell w' next_free_field s ≡ pos 0

pub laid_none : (c : ℕ) (w : Words) → Laid c 0 w w
laid_none c w = record {
  within = within_refl w;
  number = λ s l h. absurd (omega arith);
  next = λ s l h k. absurd (omega arith);
  end =
      λ s l h k. absurd (omega arith);
}

pub laid_more :
    {c n m : ℕ} {w w₀ w₁ w₂ : Words} → cap w ≡ c → Laid c n w w₀ → n < c →
    w₁ ≡ cset w₀ number_field (suc n) (pos 0) → w₂ ≡ cset w₁ next_free_field (suc n) (pos m) → (suc n < c → m ≡ suc (suc n)) → (suc n ≡ c → m ≡ 0) →
    Laid c (suc n) w w₂
laid_more {c} {n} {m} {w} {w₀} {w₁} {w₂} fits l h e₁ e₂ inner last =
    record {
      within = within_trans l.within (within_trans to₁ to₂);
      number = λ s low high. by s (dec_le s n) (λ k. old number_field s k ∙ l.number s low k) (λ d. ap (cell w₂ number_field) d ∙ new₀) high;
      next = λ s low high k. by s (dec_le s n) (λ q. old next_free_field s q ∙ l.next s low q k) (λ d. ap (cell w₂ next_free_field) d ∙ new₃
          ∙ ap pos (inner (omega arith) ∙ ap suc (sym d))) high;
      end = λ s low high k. by s (dec_le s n) (λ q. absurd (omega arith)) (λ d. ap (cell w₂ next_free_field) d ∙ new₃ ∙ ap pos (last (sym d ∙ k))) high;
    }
  where
    by : {X : Type 0} (s : ℕ) → Dec (s ≤ n) → (s ≤ n → X) → (s ≡ suc n → X) → s ≤ suc n → X
    by s (yes k) f g h = f k
    by s (no k) f g h = g (omega arith)

    to₁ : Within w₀ w₁
    to₁ = rw e₁ (within_cset w₀ number_field (suc n) (pos 0))

    to₂ : Within w₁ w₂
    to₂ = rw e₂ (within_cset w₁ next_free_field (suc n) (pos m))

    here : (v : Words) (f : ℕ) → f < 32 → cap v ≡ cap w → Valid v f (suc n)
    here v f k d = record { low = omega arith; high = omega arith; field = k }

    old : (f s : ℕ) → s ≤ n → cell w₂ f s ≡ cell w₀ f s
    old f s k =
        ap (λ (v : Words). cell v f s) e₂ ∙ cset_other w₁ next_free_field (suc n) (pos m) (λ q. omega (arith, q.1))
        ∙ ap (λ (v : Words). cell v f s) e₁ ∙ cset_other w₀ number_field (suc n) (pos 0) (λ q. omega (arith, q.1))

    new₀ : cell w₂ number_field (suc n) ≡ pos 0
    new₀ =
        ap (λ (v : Words). cell v number_field (suc n)) e₂ ∙ cset_other w₁ next_free_field (suc n) (pos m) (λ q. omega (arith, q.0))
        ∙ ap (λ (v : Words). cell v number_field (suc n)) e₁ ∙ cset_same (pos 0) (here w₀ number_field (omega arith) (within_cap l.within))

    new₃ : cell w₂ next_free_field (suc n) ≡ pos m
    new₃ =
        ap (λ (v : Words). cell v next_free_field (suc n)) e₂
        ∙ cset_same (pos m) (here w₁ next_free_field (omega arith) (within_cap to₁ ∙ within_cap l.within))

-- ---- the chain of all slots

-- n slots from k on
abbrev upward : (n k : ℕ) → List ℕ
upward zero k = []
upward (suc n) k = k ∷ upward n (suc k)

upward_length : (n k : ℕ) → length (upward n k) ≡ n
upward_length zero k = refl
upward_length (suc n) k = ap suc (upward_length n (suc k))

upward_low : (n k : ℕ) {t : ℕ} → Memᴰ t (upward n k) → k ≤ t
upward_low zero k {t = t} x' = elim x' [ ]
upward_low (suc n) k (Memᴰ.head e) = omega arith
upward_low (suc n) k (Memᴰ.tail m) = omega (arith, upward_low n (suc k) m)

upward_apart : (n k : ℕ) → Pairwise (λ (a b : ℕ). a ≢ b) (upward n k)
upward_apart zero k = Pairwise.nil
upward_apart (suc n) k = pairs_cons (λ a b. ¬_prop) (λ t m e. omega (arith, upward_low n (suc k) m)) (upward_apart n (suc k))

upward_head : (n k : ℕ) → 1 ≤ n → head0 (upward n k) ≡ k
upward_head zero k h = absurd (omega arith)
upward_head (suc n) k h = refl

module _ {c : ℕ} {w w' : Words} (b : Begun c w) (l : Laid c c w w') where
  fits : cap w' ≡ c
  fits = within_cap l.within ∙ begun_cap b

  chain : (n k : ℕ) → 1 ≤ k → k + n ≡ suc c → FreeChain w' (upward n k)
  chain zero k low e = free_none
  chain (suc zero) k low e =
      free_more low (omega (arith, fits)) (l.number k low (omega arith))
      (l.end k low (omega arith) (omega arith)) free_none
  chain (suc (suc n)) k low e =
      free_more low (omega (arith, fits)) (l.number k low (omega arith))
      (l.next k low (omega arith) (omega arith))
      (chain (suc n) (suc k) (omega arith) (omega arith))

  no_index : {tree : ℕ} {key : Item → ℤ} → IndexIn w' tree key [] none
  no_index = record { tied = tt; balanced = tt; falling = Pairwise.nil; all_live = λ a m. m; all_there = λ a m. m }

  pub opened_book : Book w' (opened (pos c)) none
  opened_book =
      record {
        capacity = fits;
        some_slot = b.low;
        offers =
            record {
              offers_root = header_kept l.within offers_root_word (omega arith) ∙ b.offers_root;
              envelope_root = header_kept l.within envelope_root_word (omega arith) ∙ b.envelope_root;
              offers_in = tt;
            };
        order = none;
        in_order =
            record {
              order_root = header_kept l.within order_root_word (omega arith) ∙ b.order_root;
              live_count = header_kept l.within live_count_word (omega arith) ∙ b.live_count;
              order_in = no_index;
              slots = slots_none;
              holds = record { held = λ m. elim m [ ] };
              ranked = record { read = λ m. elim m [ ] };
            };
        leaf_per_rate = refl;
        numbers =
            record {
              numbers = none;
              numbers_root = header_kept l.within numbers_root_word (omega arith) ∙ b.numbers_root;
              numbers_in = no_index;
            };
        free =
            record {
              free = upward c 1;
              first_free = header_kept l.within first_free_word (omega arith) ∙ b.first_free ∙ ap pos (sym (upward_head c 1 b.low));
              free_chain = chain c 1 (omega arith) (omega arith);
              free_apart = upward_apart c 1;
              slots_used = omega (arith, fits, upward_length c 1);
            };
        stands_for = refl;
      }
