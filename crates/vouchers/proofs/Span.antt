-- Theorems on specs/Span.
use Rattle.std.specs.Prelude.{◌≡◌, refl, false, ℤ, Result}
use Rattle.std.proofs.Common.{ap, ◌∙◌}
use Rattle.std.proofs.Math.Option.{Option, none, some}
use Rattle.std.specs.Int.Signed.{lt_z}
use Rattle.integers.specs.Ranges.{in_range_lem}
use Rattle.plain.specs.Causes.{Cause, declined, FirstOf, Clear}
use Rattle.plain.specs.Trials.{clear, declined_first}
use Rattle.vouchers.specs.Rule.{Rounded}
use Rattle.vouchers.specs.RuleLaws.{voucher_units, rounded}
use Rattle.vouchers.proofs.RuleLaws.{only_rounded}
use Rattle.causes.specs.declared.Declined.{Declined}
use Rattle.vouchers.specs.VoucherTold.{in_units, told, voucher_trials, Vouches}
use Rattle.vouchers.specs.Span.{decided, due, least, most, respond}

pub only_due : (p : ℤ) (v : Result ℤ Declined) → Vouches p v → told v ≡ due p
only_due p v w = go (declined (voucher_trials p)) (clear (voucher_trials p)) (declined_first (voucher_trials p))
  where
    go : (d : Option Cause) → (d ≡ none → Clear (voucher_trials p)) → ((z : Cause) → d ≡ some z → FirstOf (voucher_trials p) z) → told v ≡ respond p d
    go none c f = let a = w.accepted (c refl) in a.1 ∙ ap in_units (only_rounded p a.0 (voucher_units p) a.2 (rounded p))
    go (some z) c f = w.declined z (f z refl)

module _ (p : ℤ) where
  pub due_inside : {u : ℤ} → Rounded p u → lt_z p least ≡ false → lt_z most p ≡ false → due p ≡ in_units u
  due_inside {u} r h k = (decided p) (in_range_lem least most p h k) ∙ ap in_units (only_rounded p (voucher_units p) u (rounded p) r)
