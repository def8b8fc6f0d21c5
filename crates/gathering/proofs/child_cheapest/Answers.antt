-- `gathering::child_cheapest` meets its contract.
use mathlib.Core.Path.{◌∙◌, ap}
use Rattle.table.specs.Layout.{link_at}
use mir.Facts.{to_z-of_z}
use Rattle.gathering.specs.Cheapest.{own_on, rest_on}
use Rattle.gathering.proofs.child_cheapest.Goals as goal

pub returns-then-is_later-side : goal.returns-then-is_later-side
returns-then-is_later-side c = own_on c.inner_slot-m.ensures c.is_later.ensures c.if-is_later-side.true

pub returns : goal.returns
returns c = rest_on c.inner_slot-m.ensures c.is_later.ensures c.rest_in-root.ensures (simp (to_z-of_z, c.ranges.load) at c.cheaper.ensures)
    c.if-is_later-side.false c.child_in.ensures (c.link_in-end.ensures ∙ ap (λ f. link_at c.args.part.now f c.inner_slot-m.result) c.bridge_field.ensures)
