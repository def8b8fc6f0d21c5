-- `levels::raise` meets its contract.
use Prim.Native.Nat.{◌+◌}
use Rattle.table.specs.Fields.{piece_tree}
use Rattle.table.specs.Rep.{height_read}
use Rattle.descents.specs.Cuts.{still_known}
use Rattle.levels.specs.CodeLevels.{still_put}
use Rattle.levels.specs.Raising.{raised}
use Rattle.levels.specs.RaisingRests.{rest_within}
use Rattle.levels.specs.RaisingSearch.{met_in}
use mathlib.Core.Path.{refl, ap₂}
use native.Mathlib.Omega.{arith}
use Rattle.levels.proofs.raise.Goals as goal

pub overflow_add-heights : goal.overflow_add-heights
overflow_add-heights c = omega (
  arith,
  height_read _ piece_tree c.args.l.envelope c.height_in.ensures,
  height_read _ piece_tree c.args.r.envelope c.height_in-2.ensures,
)

pub cut_before-d-requires : goal.cut_before-d-requires
cut_before-d-requires c = still_known c.capacity-k.ensures c.cut_behind-c.ensures.within

pub set_rest-requires : goal.set_rest-requires
set_rest-requires c = still_known (still_known c.capacity-k.ensures c.cut_behind-c.ensures.within) c.cut_before-d.ensures.within

pub set_rest-requires-2 : goal.set_rest-requires-2
set_rest-requires-2 c = let after-cuts = still_known (still_known c.capacity-k.ensures c.cut_behind-c.ensures.within) c.cut_before-d.ensures.within in
    still_known (after-cuts) (rest_within c.set_rest.ensures)

pub make_node_in-tree-requires : goal.make_node_in-tree-requires
make_node_in-tree-requires c = let after-cuts = still_known (still_known c.capacity-k.ensures c.cut_behind-c.ensures.within) c.cut_before-d.ensures.within in
    still_known (still_known (after-cuts) (rest_within c.set_rest.ensures)) (rest_within c.set_rest-2.ensures)

pub put_link_in-requires : goal.put_link_in-requires
put_link_in-requires c = let after-cuts = still_known (still_known c.capacity-k.ensures c.cut_behind-c.ensures.within) c.cut_before-d.ensures.within in
    let after-rests = still_known (still_known (after-cuts) (rest_within c.set_rest.ensures)) (rest_within c.set_rest-2.ensures) in
    still_known (after-rests) c.make_node_in-tree.ensures.within

pub put_link_in-requires-2 : goal.put_link_in-requires-2
put_link_in-requires-2 c = let after-cuts = still_known (still_known c.capacity-k.ensures c.cut_behind-c.ensures.within) c.cut_before-d.ensures.within in
    let after-rests = still_known (still_known (after-cuts) (rest_within c.set_rest.ensures)) (rest_within c.set_rest-2.ensures) in
    still_put _ _ _ _ (still_known (after-rests) c.make_node_in-tree.ensures.within) c.put_link_in.ensures

pub cat_at-envelope-requires : goal.cat_at-envelope-requires
cat_at-envelope-requires c = let after-cuts = still_known (still_known c.capacity-k.ensures c.cut_behind-c.ensures.within) c.cut_before-d.ensures.within in
    let after-rests = still_known (still_known (after-cuts) (rest_within c.set_rest.ensures)) (rest_within c.set_rest-2.ensures) in
    let after-u = still_put _ _ _ _ (still_known (after-rests) c.make_node_in-tree.ensures.within) c.put_link_in.ensures in
    still_put _ _ _ _ after-u c.put_link_in-2.ensures

pub returns : goal.returns
returns c = raised refl (met_in (rw c.with_capacity-read.ensures at c.meet-m.ensures)) (ap₂ ◌+◌ c.height_in.ensures c.height_in-2.ensures)
    c.cut_behind-c.ensures c.cut_before-d.ensures c.set_rest.ensures c.set_rest-2.ensures
    c.make_node_in-tree.ensures c.put_link_in.ensures c.put_link_in-2.ensures c.cat_at-envelope.ensures
