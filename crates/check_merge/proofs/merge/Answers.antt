-- `check_merge::merge` meets its contract.
use native.Mathlib.Omega.{arith}
use Rattle.check_merge.specs.Merges.{left_place, right_place, middle, rest_left}
use Rattle.check_merge.specs.Merges.{rest_right, merges_no_left, merges_no_right, merges_all}
use Rattle.check_merge.proofs.merge.Goals as goal

pub returns-then-not-stays : goal.returns-then-not-stays
returns-then-not-stays c =
    let u = left_place c.requires c.inner_slot-gap.ensures c.link-u.ensures c.in_ok-i.ensures in
    let v = right_place u c.inner_slot-gap.ensures c.link-v.ensures c.in_ok-j.ensures in
    merges_no_left (middle v c.bridges.ensures c.if-not-bridges.false) (rest_left c.child-left.ensures c.stays.ensures) c.if-not-stays.true

pub returns-then-not-stays-2 : goal.returns-then-not-stays-2
returns-then-not-stays-2 c =
    let u = left_place c.requires c.inner_slot-gap.ensures c.link-u.ensures c.in_ok-i.ensures in
    let v = right_place u c.inner_slot-gap.ensures c.link-v.ensures c.in_ok-j.ensures in
    let l = rest_left c.child-left.ensures c.stays.ensures in
    let r = rest_right l.upper (omega (arith, v.place, c.requires)) c.child-right.ensures c.stays-2.ensures in
    merges_no_right (middle v c.bridges.ensures c.if-not-bridges.false) r c.if-not-stays-2.true

pub returns : goal.returns
returns c =
    let u = left_place c.requires c.inner_slot-gap.ensures c.link-u.ensures c.in_ok-i.ensures in
    let v = right_place u c.inner_slot-gap.ensures c.link-v.ensures c.in_ok-j.ensures in
    let l = rest_left c.child-left.ensures c.stays.ensures in
    let r = rest_right l.upper (omega (arith, v.place, c.requires)) c.child-right.ensures c.stays-2.ensures in
    merges_all (middle v c.bridges.ensures c.if-not-bridges.false) l c.if-not-stays.false r c.if-not-stays-2.false c.shift.ensures
