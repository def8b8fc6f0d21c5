-- Where a point lies against a line. This one comparison serves the query and the search for a meeting.
use Rattle.std.specs.Prelude.{◌≡◌, refl, Bool, true, false, cond, T, ℤ}
use Rattle.std.proofs.Common.{sym, arith}
use Rattle.std.specs.Int.Signed.{le_z, lt_z}
use Rattle.integers.specs.Parts.{int_rules}
-- std's order of the point's price by the line's
pub use Rattle.std.specs.declared.cmp.Ordering.{Ordering as Position}
pub use Rattle.std.specs.declared.cmp.Ordering.TheVariants.{Less as Below, Equal as On, Greater as Above}

-- by the point's price, and the line's at the point's load
abbrev pub position_of : (point line : ℤ) → Position
position_of point line = cond (lt_z point line) Below (cond (lt_z line point) Above On)

-- what each of the three says
pub data Lies (point line : ℤ) : Position → Type 0 where
  below : T (lt_z point line) → Lies point line Below
  on : point ≡ line → Lies point line On
  above : T (lt_z line point) → Lies point line Above

pub lies : (point line : ℤ) → Lies point line (position_of point line)
lies y z = go (lt_z y z) (lt_z z y) refl refl
  where
    go : (b c : Bool) → lt_z y z ≡ b → lt_z z y ≡ c → Lies y z (cond b Below (cond c Above On))
    go true c d e = below (omega (arith, int_rules))
    go false true d e = above (omega (arith, int_rules))
    go false false d e = on (omega (arith, int_rules))

-- not on it: a query has a tie where this fails
abbrev pub is_apart : Position → Bool
is_apart Below = true
is_apart On = false
is_apart Above = true

-- what the three cases of a meeting ask, and where a query goes on to the right
abbrev pub on_or_above : Position → Bool
on_or_above Below = false
on_or_above On = true
on_or_above Above = true

pub on_or_above_lem : (y z : ℤ) → on_or_above (position_of y z) ≡ le_z z y
on_or_above_lem y z = sym (go (position_of y z) (lies y z))
  where
    go : (p : Position) → Lies y z p → le_z z y ≡ on_or_above p
    go Below (below h) = omega (arith, int_rules)
    go On (on h) = omega (arith, int_rules)
    go Above (above h) = omega (arith, int_rules)
