-- Theorems on specs/Remains.
use Rattle.std.specs.Prelude.{refl, List, ℕ, length, ℤ, nat_abs, Result}
use Rattle.plain.specs.Causes.{Clear}
use Rattle.plain.specs.Book.{Call, Answer, open_trials}
use Rattle.plain.specs.Sound.{opened_sound}
use Rattle.causes.specs.declared.Declined.{Declined}
use Rattle.promises.specs.Promises.{Opens}
use Rattle.history.specs.History.{History}
use Rattle.history.proofs.Claim.{every_history}
use Rattle.history.specs.Remains.{Stays, remaining_stands}

-- from an opening on
pub every_remainder :
    {start : ℕ} {t t₀ : List ℤ} {ks : List Call} {as' : List Answer} {t' : List ℤ} (c : ℤ) (r : Result (Unit {0}) Declined)
    (p : Opens c start t t₀ r) (clear : Clear (open_trials (length t) start c)) (h : History (nat_abs c) start t₀ ks as' t') →
    Stays (every_history c r p clear h).1
every_remainder {start} {t} c r p clear h = remaining_stands (opened_sound (length t) start c clear) refl (every_history c r p clear h).1
