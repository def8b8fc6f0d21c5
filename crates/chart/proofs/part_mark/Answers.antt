-- `chart::part_mark` meets its contract: one lemma for each way out.
use mathlib.Core.Path.{◌≡◌, sym, ◌∙◌, ap, subst}
use mathlib.Core.Logic.{◌≢◌}
use Prim.Native.Nat.{ℕ, ◌≤◌, ◌<◌}
use native.Mathlib.Omega.{arith}
use lib.IntN.{ℤ, pos}
use mir.Facts.{to_z-of_z, to_z_pos}
use mir.Syntax.{w64}
use mir.Val.{to_z}
use Rattle.marks.specs.MarkTold.{open_end}
use Rattle.std.specs.Prelude.{Ok}
use Rattle.chart.specs.Marking.{PartMark, part_empty, part_outside, part_first, part_last, part_inner, index_below, index_above, index_there}
use Rattle.std.proofs.Common.{FitsSigned}
use Rattle.chart.proofs.part_mark.Goals as goal
use Rattle.chart.proofs.part_mark.Goals.{then-index-lt0-via-then-index-lt0, then-index-lt0-via-else-index-lt0+then-m-index}

first : {i : ℕ} → i < 1 → i ≡ 0
first h = omega arith

below : {i m : ℕ} → i ≤ m → i ≢ m → i < m
below h d = omega arith

pub returns-then-m-lt1 : goal.returns-then-m-lt1
returns-then-m-lt1 c = part_empty c.envelope_root-root.ensures c.count-m.ensures c.args.index c.if-m-lt1.true

pub returns-then-index-lt0 : goal.returns-then-index-lt0
returns-then-index-lt0 c = let m = c.count-m in
    let e : to_z w64 m.result ≡ pos m.result = to_z_pos w64 (omega (arith, m.ensures.few)) in
    part_outside c.envelope_root-root.ensures m.ensures c.args.index c.if-m-lt1.false
    (elim c.then-index-lt0.branch [
      | then-index-lt0-via-then-index-lt0 w ↦ index_below c.args.index _ (simp (to_z-of_z, c.ranges.index) at w.if-index-lt0.true)
      | then-index-lt0-via-else-index-lt0+then-m-index w ↦ index_above c.args.index _ (simp (to_z-of_z, c.ranges.index, e) at w.if-m-index.true)
    ])

pub returns-then-i-lt1 : goal.returns-then-i-lt1
returns-then-i-lt1 c = let m = c.count-m in
    let e : to_z w64 m.result ≡ pos m.result = to_z_pos w64 (omega (arith, m.ensures.few)) in
    let j =
    index_there c.args.index (simp (to_z-of_z, c.ranges.index) at c.if-index-lt0.false) (simp (to_z-of_z, c.ranges.index, e) at c.if-m-index.false)
    m.ensures.few (simp (to_z-of_z, c.ranges.index) at c.up_to-i.ensures) in
    let f : FitsSigned w64 c.rate.result = record { sfits = c.rate.type_inv } in
    let i : c.args.index ≡ pos 0 = j.0 ∙ ap pos (first c.if-i-lt1.true) in
    subst (λ (z : ℤ). PartMark c.args.part.now z (Ok c.open_end.result)) (sym i)
    (part_first c.envelope_root-root.ensures m.ensures c.if-m-lt1.false c.slot_of.ensures
    ((simp (to_z-of_z, f) at c.open_end.ensures) ∙ ap open_end (rw c.of.ensures at c.rate.ensures)))

pub returns-then-i-m : goal.returns-then-i-m
returns-then-i-m c = let m = c.count-m in
    let e : to_z w64 m.result ≡ pos m.result = to_z_pos w64 (omega (arith, m.ensures.few)) in
    let j =
    index_there c.args.index (simp (to_z-of_z, c.ranges.index) at c.if-index-lt0.false) (simp (to_z-of_z, c.ranges.index, e) at c.if-m-index.false)
    m.ensures.few (simp (to_z-of_z, c.ranges.index) at c.up_to-i.ensures) in
    let f : FitsSigned w64 c.rate-then-i-m.result = record { sfits = c.rate-then-i-m.type_inv } in
    subst (λ (z : ℤ). PartMark c.args.part.now z (Ok c.open_end-then-i-m.result)) (sym j.0)
    (part_last c.envelope_root-root.ensures m.ensures c.if-m-lt1.false c.up_to-i.result c.if-i-lt1.false
    c.slot_of-s.ensures
    c.if-i-m.true ((simp (to_z-of_z, f) at c.open_end-then-i-m.ensures) ∙ ap open_end (rw c.of-then-i-m.ensures at c.rate-then-i-m.ensures)))

pub returns : goal.returns
returns c = let m = c.count-m in
    let e : to_z w64 m.result ≡ pos m.result = to_z_pos w64 (omega (arith, m.ensures.few)) in
    let j =
    index_there c.args.index (simp (to_z-of_z, c.ranges.index) at c.if-index-lt0.false) (simp (to_z-of_z, c.ranges.index, e) at c.if-m-index.false)
    m.ensures.few (simp (to_z-of_z, c.ranges.index) at c.up_to-i.ensures) in
    subst (λ (z : ℤ). PartMark c.args.part.now z (Ok c.crossing_at.result)) (sym j.0)
    (part_inner c.envelope_root-root.ensures m.ensures c.if-m-lt1.false c.up_to-i.result c.if-i-lt1.false
    c.slot_of-s.ensures
    (below j.1 c.if-i-m.false) c.crossing_at.ensures)
