-- `check_bridges::follows` meets its contract.
use borrow.Author.Tests.{eq-eqb, ne_eqb}
use Rattle.std.proofs.Common.{◌≡◌, ◌&&◌, ◌∙◌, ap, eqb}
use Rattle.lists.specs.Bools.{first_passes, first_fails}
use Rattle.check_bridges.specs.StoredBridges.{told, leads, over, linked_not, linked_rest}
use Rattle.check_bridges.proofs.follows.Goals as goal
use Rattle.check_bridges.proofs.follows.Goals.{then-link-b, else-link-b}

pub returns-then-is_equal : goal.returns-then-is_equal
returns-then-is_equal c =
    let w = c.args.part.now in
    let a = c.args.a in
    let b = c.args.b in
    let l = ap (λ n. eqb n b) c.link.ensures in
    let two : c.if-link-b.value ≡ leads w a b && over w a b =
    elim c.if-link-b.branch [
      | then-link-b u ↦ first_passes l (eq-eqb _ _ u.if-link-b.true)
          (u.value-is ∙ told _ u.base_gap.ensures (record { sfits = u.base_gap.type_inv }) u.is_equal.ensures)
      | else-link-b u ↦ u.value-is ∙ first_fails (over w a b) l (ne_eqb _ _ u.if-link-b.false)
    ] in
    let g = c.rate_gap in
    linked_rest w a b two c.if-is_equal.true (told _ g.ensures (record { sfits = g.type_inv }) c.is_equal-then-is_equal.ensures)

pub returns-else-is_equal : goal.returns-else-is_equal
returns-else-is_equal c =
    let w = c.args.part.now in
    let a = c.args.a in
    let b = c.args.b in
    let l = ap (λ n. eqb n b) c.link.ensures in
    let two : c.if-link-b.value ≡ leads w a b && over w a b =
    elim c.if-link-b.branch [
      | then-link-b u ↦ first_passes l (eq-eqb _ _ u.if-link-b.true)
          (u.value-is ∙ told _ u.base_gap.ensures (record { sfits = u.base_gap.type_inv }) u.is_equal.ensures)
      | else-link-b u ↦ u.value-is ∙ first_fails (over w a b) l (ne_eqb _ _ u.if-link-b.false)
    ] in
    linked_not w a b two c.if-is_equal.false
