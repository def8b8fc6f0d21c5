-- Theorems on specs/RuleLaws.
use Rattle.std.specs.Prelude.{◌≡◌, ℤ}
use Rattle.std.proofs.Common.{lt_of_not-le, arith}
use Rattle.integers.specs.Parts.{parts_eq}
use Rattle.vouchers.specs.Rule.{Rounded}
use Rattle.vouchers.specs.RuleLaws.{apart}

pub only_rounded : (p u v : ℤ) → Rounded p u → Rounded p v → u ≡ v
only_rounded p u v r s = parts_eq u v (omega (arith, lt_of_not-le (apart p u v r s), lt_of_not-le (apart p v u s r)))
