-- Theorems on specs/OneReading.
use Rattle.std.specs.Prelude.{◌≡◌, ℕ, ℤ}
use mathlib.Core.List.{List}
use Rattle.promises.specs.Promises.{Passes}
use Rattle.theorems.specs.OneReading.{one_reading}

-- so every promise that speaks of all plain books a table may stand for speaks of one
pub passes_once : (start : ℕ) (t : List ℤ) (p q : Passes start t) → p.0 ≡ q.0
passes_once start t (s, held, b) (s', held', b') = (one_reading b b').0
