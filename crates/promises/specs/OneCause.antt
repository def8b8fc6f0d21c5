-- One cause declines a call, and none where its trials are clear.
use Rattle.std.specs.Prelude.{◌≡◌, List, ℕ}
use Rattle.std.proofs.Common.{sym, ◌∙◌, ap, arith}
use Rattle.std.proofs.Math.Option.{Option, none, some}
use Rattle.plain.specs.Book.{opening_by}
use Rattle.plain.specs.Trials.{declined_by, not_declined}
use Rattle.plain.specs.Causes.{Cause, Trial, cause_number, FirstOf, Clear}

some_one : Option Cause → ℕ
some_one none = 0
some_one (some k) = 1

pub one_cause : {ks : List Trial} {k z : Cause} → FirstOf ks k → FirstOf ks z → cause_number z ≡ cause_number k
one_cause {ks} {k} {z} f g = ap opening_by (sym (declined_by ks z g) ∙ declined_by ks k f)

pub not_clear : {ks : List Trial} {k : Cause} → FirstOf ks k → Clear ks → ⊥
unfolding some_one
not_clear {ks} {k} f g = let e : ◌≡◌ {A = ℕ} 0 1 = ap some_one (sym (not_declined ks g) ∙ declined_by ks k f) in omega arith
