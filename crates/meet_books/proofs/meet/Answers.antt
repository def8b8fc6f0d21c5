-- `meet_books::meet` meets its contract: by its guards, and then the two parts.
use mathlib.Core.Logic.{inl, inr}
use Rattle.lists.specs.Bools.{said}
use Rattle.meet_books.specs.Tables.{one_missing, both_there}
use Rattle.meet_books.proofs.meet.Goals as goal
use Rattle.meet_books.proofs.meet.Goals.{then-no_book-via-then-no_book, then-no_book-via-else-no_book+then-no_book-2}

pub returns-then-no_book : goal.returns-then-no_book
returns-then-no_book c = one_missing c.args.left.now c.args.left_start c.args.right.now c.args.right_start
    (elim c.then-no_book.branch [
      | then-no_book-via-then-no_book w ↦ inl (said c.no_book.ensures w.if-no_book.true)
      | then-no_book-via-else-no_book+then-no_book-2 w ↦ inr (said w.no_book-else-no_book.ensures w.if-no_book-2.true)
    ])

pub returns : goal.returns
returns c = both_there c.args.left.now c.args.left_start c.args.right.now c.args.right_start c.no_book.ensures
    c.if-no_book.false c.no_book-else-no_book.ensures c.if-no_book-2.false c.meet_parts.ensures
