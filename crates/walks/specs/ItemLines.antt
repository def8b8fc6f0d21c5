-- Items as lines: the figure of the offers that they carry, and its tests as the code computes them.
use Rattle.std.specs.Prelude.{◌≡◌, refl, ◌||◌, T, ℤ, ◌+ℤ◌, ◌*ℤ◌}
use Rattle.std.proofs.Common.{sym, ap}
use Rattle.std.proofs.Math.Option.{Option}
use Rattle.std.specs.Int.Signed.{le_z}
use Rattle.offers.specs.Offers.{denominator, crossing_numerator, crossing_denominator}
use Rattle.envelopes.specs.PseudoLines.{Figure, PseudoLines}
use Rattle.lines.specs.Lines.{line_figure}
use Rattle.lines.proofs.Lines.{line_laws, cross_price, price_at_cross}
use Rattle.trees.specs.Tree.{Tree, leaf, node, first, last}
use Rattle.meeting.specs.Machine.{Side, left, right, point_at, local_at_most, crossing_on_or_above}
use Rattle.table.specs.Items.{Item}

abbrev pub rate_of : Item → ℤ
rate_of a = a.offer.rate

abbrev pub base_of : Item → ℤ
base_of a = a.offer.base

abbrev pub item_figure : Figure
item_figure = line_figure Item rate_of base_of

pub item_laws : PseudoLines item_figure
item_laws = line_laws Item rate_of base_of

-- each offer has the higher rate of the two
abbrev pub Falls : Item → Item → Type 0
Falls a b = T (item_figure.before a b)

-- the price of an item's line, times D, at the load N over D
abbrev pub scaled : Item → ℤ → ℤ → ℤ
scaled e n d = base_of e *ℤ d +ℤ rate_of e *ℤ n

-- two items' prices at the crossing of a and b
pub price_test : (e m a b : Item) → Falls a b → item_figure.at_most e m (item_figure.cross a b) ≡ le_z
    (scaled e (crossing_numerator a.offer b.offer) (crossing_denominator a.offer b.offer))
    (scaled m (crossing_numerator a.offer b.offer) (crossing_denominator a.offer b.offer))
price_test e m a b h = price_at_cross Item rate_of base_of e m a b h

-- at their crossing two lines have one price, so a third is compared with either
pub same_at_cross : (e a b : Item) → Falls a b → item_figure.at_most e b (item_figure.cross a b) ≡ item_figure.at_most e a (item_figure.cross a b)
same_at_cross e a b h =
    ap (le_z (base_of e *ℤ denominator (item_figure.cross a b) +ℤ rate_of e *ℤ (item_figure.cross a b).numerator)) (sym (cross_price Item rate_of base_of a b h))

local_same : (t : Tree Item) (a b : Item) → Falls a b → local_at_most item_figure t b (item_figure.cross a b) ≡ local_at_most item_figure t a (item_figure.cross a b)
local_same (leaf e) a b h = same_at_cross e a b h
local_same (node l r) a b h = λ i. same_at_cross (last l) a b h i || same_at_cross (first r) a b h i

-- Seen from either side, an inner node's point is the crossing of the last line left of it and the first line right of it, and its price is the former's.
pub point_above : (side : Side) (l r : Tree Item) (e : Option Item) (t : Tree Item) → Falls (last l) (first r) →
    crossing_on_or_above item_figure side (point_at side (node l r) e) t ≡ local_at_most item_figure t (last l) (item_figure.cross (last l) (first r))
point_above left l r e t h = refl
point_above right l r e t h = local_same t (last l) (first r) h
