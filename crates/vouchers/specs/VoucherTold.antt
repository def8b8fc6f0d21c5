-- What a voucher call tells: the requirements' number and values (11, 16.5) for each case of its answer, and what it promises.
use Rattle.std.specs.Prelude.{◌≡◌, List, [], ◌∷◌, not, ℤ, pos, Result, Ok, Err}
use Rattle.offers.specs.Offers.{price_in_range}
use Rattle.plain.specs.Causes.{Cause, Trial, ◌when◌, cause_number, price_out_of_range, FirstOf, Clear}
use Rattle.vouchers.specs.Rule.{Rounded}
use Rattle.causes.specs.declared.Declined.{Declined}
use Rattle.causes.specs.Numbers.{number_of}

-- the number of the cause for declining, 0 where there is none, and the values
pub record Told : Type 0 where
  pub number : ℤ
  pub values : List ℤ

abbrev pub in_units : ℤ → Told
in_units u = record { number = pos 0; values = u ∷ [] }

abbrev pub refusal : Cause → Told
refusal c = record { number = pos (cause_number c); values = [] }

abbrev pub told : Result ℤ Declined → Told
told (Ok u) = in_units u
told (Err c) = record { number = number_of c; values = [] }

-- ---- the promise

abbrev pub voucher_trials : ℤ → List Trial
voucher_trials price = price_out_of_range when not (price_in_range price) ∷ []

-- Outside the span the number 4 alone, and inside it one value, the price rounded. This leaves one answer (`only-due`).
pub record Vouches (price : ℤ) (v : Result ℤ Declined) : Type 0 where
  pub declined : (z : Cause) → FirstOf (voucher_trials price) z → told v ≡ refusal z
  pub accepted : Clear (voucher_trials price) → (u : ℤ) × (told v ≡ in_units u) × Rounded price u
