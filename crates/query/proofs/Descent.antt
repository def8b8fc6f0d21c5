-- Theorems on specs/Descent.
use Rattle.std.specs.Prelude.{◌≡◌, refl, ℕ, ◌<◌, ℤ}
use Rattle.std.proofs.Common.{arith}
use Rattle.table.specs.Fields.{most_slots}
use Rattle.table.specs.Words.{Words}
use Rattle.table.specs.Nodes.{ref_low}
use Rattle.query.specs.Readings.{toward_at}
use Rattle.query.specs.Descent.{Descended, Ongoing, ongoing_step}

-- no node of a tree of pieces is without a child on the load's side
pub ongoing_off : {w : Words} {root x second probes : ℕ} {q : ℤ} → Ongoing w root q x second probes → most_slots < x → 0 ≡ toward_at w x q →
    (slot other found : ℕ) → Descended w root q slot other found
ongoing_off g d e slot other found =
    record {
      finds = λ t p k h. let b = (ongoing_step g d (e, refl)).below t p h in
          absurd (omega (arith, b.pieces.rep.root, ref_low b.tree b.pieces.rep.slots));
    }
