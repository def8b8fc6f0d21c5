-- `nodes::set_node` meets its contract.
use mathlib.Core.Path.{◌≡◌, refl}
use native.Mathlib.Omega.{arith}
use lib.IntN.{pos}
use mir.Facts.{to_z_pos}
use mir.Syntax.{w64}
use mir.Val.{to_z}
use Rattle.nodes.specs.Joining.{no_gap, joined_node}
use borrow.Author.Rules.{rules}
use Rattle.nodes.proofs.set_node.Goals as goal

pub returns-then-gap-gt-MOST_SLOTS : goal.returns-then-gap-gt-MOST_SLOTS
returns-then-gap-gt-MOST_SLOTS c = record { joined = λ e. no_gap c.if-gap-gt-MOST_SLOTS.true }

pub returns : goal.returns
returns c = let a = c.args in
    let f = c.ranges in
    let vp : to_z w64 a.p ≡ pos a.p = to_z_pos w64 (omega (arith, f.p)) in
    let vq : to_z w64 a.q ≡ pos a.q = to_z_pos w64 (omega (arith, f.q)) in
    let vh : to_z w64 a.h ≡ pos a.h = to_z_pos w64 (omega (arith, f.h)) in
    record {
      joined = λ e. joined_node e c.child_field.ensures refl c.child_field-2.ensures refl
          c.height_field.ensures (simp (vp, vq, vh) at c.put_three_in.ensures);
    }
