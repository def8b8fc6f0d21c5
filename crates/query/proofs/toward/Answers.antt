-- `query::toward` meets its contract: the group is read where the part has it, and every way off tells that there is no child.
use Rattle.std.proofs.Common.{rules}
use mathlib.Core.Path.{sym, ◌∙◌}
use Prim.Native.Nat.{◌+◌}
use native.Mathlib.Omega.{arith}
use lib.ListN.{get_or}
use lib.IntN.{pos}
use mir.Syntax.{w64}
use Rattle.std.proofs.Common.{FitsSigned}
use mir.Facts.{to_z-of_z}
use Rattle.table.specs.Cells.{placed}
use Rattle.query.specs.Groups.{group_small, group_in, off_slot, off_steep, off_wild, mind_there, toward_there}
use Rattle.query.proofs.toward.Goals as goal

pub returns-then-x-le-LEAVES : goal.returns-then-x-le-LEAVES
returns-then-x-le-LEAVES c = off_slot _ _ _ _ c.requires (λ h. omega (arith, h.0))

pub returns-then-c-x : goal.returns-then-c-x
returns-then-c-x c = off_slot _ _ _ _ c.requires (λ h. omega (arith, h.1))

pub address-at-requires : goal.address-at-requires
address-at-requires c = placed _ _ _ _ c.requires (omega arith) (omega arith)

pub overflow_add-d : goal.overflow_add-d
overflow_add-d c = omega (arith, group_small _ _ _ c.requires c.if-x-le-LEAVES.false c.if-c-x.false c.address-at.ensures)

pub offset_bounds-part-at : goal.offset_bounds-part-at
offset_bounds-part-at c = omega (arith, group_small _ _ _ c.requires c.if-x-le-LEAVES.false c.if-c-x.false c.address-at.ensures)

pub bounds-part-at : goal.bounds-part-at
bounds-part-at c = group_in _ _ _ c.requires c.if-x-le-LEAVES.false c.if-c-x.false c.address-at.ensures 3 (omega arith)

pub returns-then-outside : goal.returns-then-outside
returns-then-outside c = let w = c.args.part.now in
    let d : FitsSigned w64 (get_or w (c.address-at.result + 3) (pos 0)) = record { sfits = search rules } in
    off_steep _ _ _ c.requires c.if-x-le-LEAVES.false c.if-c-x.false c.address-at.ensures _
    (sym (simp (to_z-of_z, d) at c.outside.ensures) ∙ c.if-outside.true)

pub overflow_add-at : goal.overflow_add-at
overflow_add-at c = omega (arith, group_small _ _ _ c.requires c.if-x-le-LEAVES.false c.if-c-x.false c.address-at.ensures)

pub offset_bounds-part-at-2 : goal.offset_bounds-part-at-2
offset_bounds-part-at-2 c = omega (arith, group_small _ _ _ c.requires c.if-x-le-LEAVES.false c.if-c-x.false c.address-at.ensures)

pub bounds-part-at-2 : goal.bounds-part-at-2
bounds-part-at-2 c = group_in _ _ _ c.requires c.if-x-le-LEAVES.false c.if-c-x.false c.address-at.ensures 2 (omega arith)

pub overflow_add-z : goal.overflow_add-z
overflow_add-z c = let low = c.turn_at-turn.ensures.low in
    omega (arith, low, group_small _ _ _ c.requires c.if-x-le-LEAVES.false c.if-c-x.false c.address-at.ensures)

pub offset_bounds-part-at-3 : goal.offset_bounds-part-at-3
offset_bounds-part-at-3 c = let low = c.turn_at-turn.ensures.low in
    omega (arith, low, group_small _ _ _ c.requires c.if-x-le-LEAVES.false c.if-c-x.false c.address-at.ensures)

pub bounds-part-at-3 : goal.bounds-part-at-3
bounds-part-at-3 c = let low = c.turn_at-turn.ensures.low in
    group_in _ _ _ c.requires c.if-x-le-LEAVES.false c.if-c-x.false c.address-at.ensures _ (omega (arith, low))

pub returns-then-outside-2 : goal.returns-then-outside-2
returns-then-outside-2 c = let w = c.args.part.now in
    let at = c.address-at.result in
    let d : FitsSigned w64 (get_or w (at + 3) (pos 0)) = record { sfits = search rules } in
    let n : FitsSigned w64 (get_or w (at + 2) (pos 0)) = record { sfits = search rules } in
    let z : FitsSigned w64 (get_or w (at + c.turn_at-turn.result.side) (pos 0)) = record { sfits = search rules } in
    off_wild _ _ _ c.requires c.if-x-le-LEAVES.false c.if-c-x.false c.address-at.ensures
    (simp (to_z-of_z, n, d, c.ranges.load) at c.turn_at-turn.ensures)
    (sym (simp (to_z-of_z, d) at c.outside.ensures) ∙ c.if-outside.false)
    (sym (simp (to_z-of_z, z) at c.outside-2.ensures) ∙ c.if-outside-2.true)

pub returns : goal.returns
returns c = let w = c.args.part.now in
    let at = c.address-at.result in
    let d : FitsSigned w64 (get_or w (at + 3) (pos 0)) = record { sfits = search rules } in
    let n : FitsSigned w64 (get_or w (at + 2) (pos 0)) = record { sfits = search rules } in
    let z : FitsSigned w64 (get_or w (at + c.turn_at-turn.result.side) (pos 0)) = record { sfits = search rules } in
    let turns = simp (to_z-of_z, n, d, c.ranges.load) at c.turn_at-turn.ensures in
    let near = sym (simp (to_z-of_z, d) at c.outside.ensures) ∙ c.if-outside.false in (
      (simp (to_z-of_z, z) at c.up_to.ensures)
          ∙ toward_there _ _ _ c.requires c.if-x-le-LEAVES.false c.if-c-x.false c.address-at.ensures turns near,
      mind_there _ _ _ c.requires c.if-x-le-LEAVES.false c.if-c-x.false c.address-at.ensures turns near,
    )
