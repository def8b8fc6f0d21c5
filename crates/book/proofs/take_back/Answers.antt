-- `book::take_back` meets its contract: by its guard, and then what a take-back does to the part.
use mathlib.Core.Path.{refl}
use Rattle.book.specs.TableUpdates.{updates_none, taken_back}
use Rattle.book.proofs.take_back.Goals as goal

pub returns-then-no_book : goal.returns-then-no_book
returns-then-no_book c = updates_none _ _ _ _ c.no_book.ensures c.if-no_book.true refl

pub returns : goal.returns
returns c = taken_back _ _ _ c.no_book.ensures c.if-no_book.false _ c.take_back_part.ensures refl
