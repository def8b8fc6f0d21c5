-- `spreading::next_below` meets its contract: the offer behind, and tests of its rate and of its price.
use Rattle.std.proofs.Common.{ap, not}
use mathlib.Core.Path.{refl}
use mir.Facts.{to_z-of_z}
use mir.Syntax.{w64}
use Rattle.std.proofs.Common.{FitsSigned}
use Rattle.spreading.specs.Nexts.{no_follower, lower_rate, follower_below, follower_dear}
use Rattle.spreading.proofs.next_below.Goals as goal

pub returns-then-b-lt1 : goal.returns-then-b-lt1
returns-then-b-lt1 c = no_follower c.behind-b.ensures c.if-b-lt1.true refl

pub returns-then-not-at_least_in : goal.returns-then-not-at_least_in
returns-then-not-at_least_in c = let f : FitsSigned w64 c.get_in-rate.result = record { sfits = c.get_in-rate.type_inv } in
    lower_rate c.behind-b.ensures c.if-b-lt1.false c.get_in-rate.ensures (simp (to_z-of_z, f) at c.at_least_in.ensures)
    (ap not c.if-not-at_least_in.true) refl

pub returns-then-is_below : goal.returns-then-is_below
returns-then-is_below c = let f : FitsSigned w64 c.get_in-rate.result = record { sfits = c.get_in-rate.type_inv } in
    follower_below c.behind-b.ensures c.if-b-lt1.false c.get_in-rate.ensures (simp (to_z-of_z, f) at c.at_least_in.ensures)
    (ap not c.if-not-at_least_in.false) (simp (to_z-of_z, c.ranges.load, c.ranges.price) at c.is_below.ensures) c.if-is_below.true refl

pub returns : goal.returns
returns c = let f : FitsSigned w64 c.get_in-rate.result = record { sfits = c.get_in-rate.type_inv } in
    follower_dear c.behind-b.ensures c.if-b-lt1.false c.get_in-rate.ensures (simp (to_z-of_z, f) at c.at_least_in.ensures)
    (ap not c.if-not-at_least_in.false) (simp (to_z-of_z, c.ranges.load, c.ranges.price) at c.is_below.ensures) c.if-is_below.false refl
