-- `opening::open` meets its contract: by its guards, and then what an empty book's part is.
use mathlib.Core.Path.{refl, ap}
use mathlib.Core.List.{[]}
use lib.ListN.{length, length-drop}
use Rattle.promises.specs.LentPart.{whole_part}
use native.Mathlib.Omega.{arith}
use mir.Facts.{to_z-of_z}
use Rattle.opening.specs.Opens.{opens_cut, opens_done, capacity_span}
use Rattle.opening.proofs.open.Goals as goal

pub returns-then-table-start-2 : goal.returns-then-table-start-2
returns-then-table-start-2 c = opens_cut _ _ _ _ (simp (to_z-of_z, c.ranges.capacity) at c.outside.ensures) c.if-outside.false
    (simp (to_z-of_z, c.ranges.capacity) at c.up_to-c.ensures) c.if-table-start-2.true refl

pub start_book-requires : goal.start_book-requires
start_book-requires c = let s =
    capacity_span c.args.capacity 0 [] [] (simp (to_z-of_z, c.ranges.capacity) at c.outside.ensures) c.if-outside.false
    (simp (to_z-of_z, c.ranges.capacity) at c.up_to-c.ensures) in (
      s.0,
      s.1,
      omega (
        arith,
        c.if-table-start.false,
        c.if-table-start-2.false,
        length-drop c.args.start c.args.table.now,
        ap length (whole_part c.args.table.now c.args.start),
      ),
    )

pub returns : goal.returns
returns c = opens_done _ _ _ _ (simp (to_z-of_z, c.ranges.capacity) at c.outside.ensures) c.if-outside.false
    (simp (to_z-of_z, c.ranges.capacity) at c.up_to-c.ensures) c.if-table-start.false c.if-table-start-2.false _ c.start_book.ensures refl
