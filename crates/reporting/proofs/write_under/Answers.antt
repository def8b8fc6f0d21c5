-- `reporting::write_under` meets its contract: by what was gathered, spread and written.
use mir.Facts.{to_z-of_z}
use borrow.Author.Tests.{not-true}
use Rattle.reporting.specs.Counting.{under_empty, under_none, under_lost, under_astray, under_all}
use Rattle.reporting.proofs.write_under.Goals as goal

pub returns-then-x-lt1 : goal.returns-then-x-lt1
returns-then-x-lt1 c = under_empty c.offers_root-x.ensures c.if-x-lt1.true

pub returns-then-not-is_below : goal.returns-then-not-is_below
returns-then-not-is_below c = let fits = c.ranges in
    under_none c.offers_root-x.ensures c.if-x-lt1.false c.envelope_root-root.ensures
    (simp (to_z-of_z, fits.load) at c.descend-found.ensures) (simp (to_z-of_z, fits.load, fits.price) at c.is_below.ensures)
    (not-true _ c.if-not-is_below.true-raw)

pub returns-then-n-gt-SLOTS : goal.returns-then-n-gt-SLOTS
returns-then-n-gt-SLOTS c = let fits = c.ranges in
    under_lost c.offers_root-x.ensures c.if-x-lt1.false c.envelope_root-root.ensures
    (simp (to_z-of_z, fits.load) at c.descend-found.ensures) (simp (to_z-of_z, fits.load, fits.price) at c.gather-n.ensures) c.if-n-gt-SLOTS.true

pub returns-then-m-gt-SLOTS : goal.returns-then-m-gt-SLOTS
returns-then-m-gt-SLOTS c = let fits = c.ranges in
    under_astray c.offers_root-x.ensures c.if-x-lt1.false c.envelope_root-root.ensures
    (simp (to_z-of_z, fits.load) at c.descend-found.ensures) (simp (to_z-of_z, fits.load, fits.price) at c.gather-n.ensures)
    (simp (to_z-of_z, fits.load, fits.price) at c.spread-m.ensures) c.if-m-gt-SLOTS.true

pub returns : goal.returns
returns c = let fits = c.ranges in
    under_all c.offers_root-x.ensures c.if-x-lt1.false c.envelope_root-root.ensures
    (simp (to_z-of_z, fits.load) at c.descend-found.ensures) (simp (to_z-of_z, fits.load, fits.price) at c.gather-n.ensures)
    (simp (to_z-of_z, fits.load, fits.price) at c.spread-m.ensures) c.if-m-gt-SLOTS.false c.write.ensures
