-- What a list of trials decides: no cause exactly when none applies, and a cause exactly when it is the first that applies.
use Rattle.std.specs.Prelude.{◌≡◌, refl, List, [], ◌∷◌, ◌++◌, Bool, true, false, not, cond, ℕ, T}
use Rattle.std.proofs.Common.{subst, arith}
use Rattle.std.proofs.Math.Option.{none, some}
use Rattle.plain.specs.Causes.{Cause, Trial, declined, Clear, FirstOf, at_once, further}

-- ---- none applies

pub clear : (ks : List Trial) → declined ks ≡ none → Clear ks
clear [] e = tt
clear (k ∷ ks) e = go k.applies e (clear ks)
  where
    go : (b : Bool) → cond b (some k.cause) (declined ks) ≡ none → (declined ks ≡ none → Clear ks) → T (not b) × Clear ks
    go true p rec = let z : ◌≡◌ {A = ℕ} 0 1 = cc in absurd (omega arith)
    go false p rec = (tt, rec p)

pub not_declined : (ks : List Trial) → Clear ks → declined ks ≡ none
not_declined [] c = refl
not_declined (k ∷ ks) (t, c) = go k.applies t (not_declined ks c)
  where
    go : (b : Bool) → T (not b) → declined ks ≡ none → cond b (some k.cause) (declined ks) ≡ none
    go true t e = absurd t
    go false t e = e

-- ---- the first that applies

pub declined_by : (ks : List Trial) (c : Cause) → FirstOf ks c → declined ks ≡ some c
declined_by [] c x' = elim x' [ ]
declined_by (k ∷ ks) c (at_once t) = go k.applies t
  where
    go : (b : Bool) → T b → cond b (some k.cause) (declined ks) ≡ some k.cause
    go true t = refl
    go false t = absurd t
declined_by (k ∷ ks) c (further t f) = go k.applies t (declined_by ks c f)
  where
    go : (b : Bool) → T (not b) → declined ks ≡ some c → cond b (some k.cause) (declined ks) ≡ some c
    go true t e = absurd t
    go false t e = e

-- and back: the cause told is the first that applies
pub declined_first : (ks : List Trial) (c : Cause) → declined ks ≡ some c → FirstOf ks c
declined_first [] c e = let z : ◌≡◌ {A = ℕ} 0 1 = cc in absurd (omega arith)
declined_first (k ∷ ks) c e = go k.applies (λ t. t) (λ t. t) e (declined_first ks c)
  where
    go :
        (b : Bool) → (T b → T k.applies) → (T (not b) → T (not k.applies)) → cond b (some k.cause) (declined ks) ≡ some c →
        (declined ks ≡ some c → FirstOf ks c) → FirstOf (k ∷ ks) c
    go true yes-is no-is p rec = let same : k.cause ≡ c = cc in subst (FirstOf (k ∷ ks)) same (at_once (yes-is tt))
    go false yes-is no-is p rec = further (no-is tt) (rec p)

-- ---- trials one behind the other

pub first_append : {ks : List Trial} {c : Cause} (ls : List Trial) → FirstOf ks c → FirstOf (ks ++ ls) c
first_append ls (at_once t) = at_once t
first_append ls (further t f) = further t (first_append ls f)

pub first_behind : (ks : List Trial) {ls : List Trial} {c : Cause} → Clear ks → FirstOf ls c → FirstOf (ks ++ ls) c
first_behind [] k f = f
first_behind (t ∷ ks) k f = further k.0 (first_behind ks k.1 f)

pub clear_append : (ks ls : List Trial) → Clear ks → Clear ls → Clear (ks ++ ls)
clear_append [] ls k l = l
clear_append (t ∷ ks) ls k l = (k.0, clear_append ks ls k.1 l)
