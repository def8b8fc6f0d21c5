-- What is due for a price in its span, and outside it: the promise asks for this and leaves nothing else.
use Rattle.std.specs.Prelude.{◌≡◌, refl, Bool, true, not, cond, [], ◌∷◌, map, ℕ, ℤ, pos, negsuc, neg_ℤ, Result}
use Rattle.std.proofs.Common.{ap, ◌∙◌}
use Rattle.std.proofs.Math.Option.{Option, none, some}
use Rattle.std.specs.Int.Signed.{lt_z}
use Rattle.integers.specs.Ranges.{too_low, too_high}
use Rattle.offers.specs.Offers.{price_in_range}
use Rattle.plain.specs.Causes.{Cause, declined, price_out_of_range}
use Rattle.plain.specs.Trials.{not_declined, declined_by}
use Rattle.vouchers.specs.RuleLaws.{voucher_units, rounded}
use Rattle.causes.specs.declared.Declined.{Declined}
use Rattle.vouchers.specs.VoucherTold.{Told, in_units, refusal, told, voucher_trials, Vouches}

-- ---- the answer computed: it meets the promise, and no other does

abbrev pub respond : ℤ → Option Cause → Told
respond price none = in_units (voucher_units price)
respond price (some c) = refusal c

abbrev pub due : ℤ → Told
due price = respond price (declined (voucher_trials price))

pub vouches_due : (p : ℤ) (v : Result ℤ Declined) → told v ≡ due p → Vouches p v
vouches_due p v e = record {
  declined = λ z f. e ∙ ap (respond p) (declined_by (voucher_trials p) z f);
  accepted = λ c. (voucher_units p, e ∙ ap (respond p) (not_declined (voucher_trials p) c), rounded p);
}

-- ---- the ends of the span, as the code has them

abbrev pub least : ℤ
least = negsuc 100_999_999_999

abbrev pub most : ℤ
most = pos 101_000_000_000

module _ (p : ℤ) where
  pub decided : {b : Bool} → price_in_range p ≡ b → due p ≡ respond p (cond (not b) (some price_out_of_range) none)
  decided e = ap (λ (b : Bool). respond p (cond (not b) (some price_out_of_range) none)) e

  pub due_below : lt_z p least ≡ true → due p ≡ record { number = pos 4; values = [] }
  due_below h = decided (too_low least most p h)

  pub due_above : lt_z most p ≡ true → due p ≡ record { number = pos 4; values = [] }
  due_above h = decided (too_high least most p h)

-- ---- the requirements' examples (11)

abbrev pub minus : ℕ → ℤ
minus n = neg_ℤ (pos n)

pub halves : map due (pos 50 ∷ pos 150 ∷ pos 250 ∷ minus 50 ∷ minus 150 ∷ minus 250 ∷ [])
    ≡ map in_units (pos 0 ∷ pos 2 ∷ pos 2 ∷ pos 0 ∷ minus 2 ∷ minus 2 ∷ [])
halves = refl

pub beside_halves : map due (pos 49 ∷ pos 51 ∷ pos 149 ∷ minus 49 ∷ minus 51 ∷ []) ≡ map in_units (pos 0 ∷ pos 1 ∷ pos 1 ∷ pos 0 ∷ minus 1 ∷ [])
beside_halves = refl

pub ends : map due (minus 101_000_000_000 ∷ pos 101_000_000_000 ∷ []) ≡ map in_units (minus 1_010_000_000 ∷ pos 1_010_000_000 ∷ [])
ends = refl

pub beyond_ends : map due (minus 101_000_000_001 ∷ pos 101_000_000_001 ∷ []) ≡ map refusal (price_out_of_range ∷ price_out_of_range ∷ [])
beyond_ends = refl
