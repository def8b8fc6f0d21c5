-- `meet_books::meet_parts` meets its contract: by its guards, and then the search.
use mathlib.Core.Logic.{inl, inr}
use Rattle.lists.specs.Bools.{said}
use Rattle.meet_books.specs.Searching.{one_empty, not_apart, apart_found}
use Rattle.meet_books.proofs.meet_parts.Goals as goal
use Rattle.meet_books.proofs.meet_parts.Goals.{then-is_empty-via-then-is_empty, then-is_empty-via-else-is_empty+then-is_empty-2}

pub returns-then-is_empty : goal.returns-then-is_empty
returns-then-is_empty c = one_empty (elim c.then-is_empty.branch [
  | then-is_empty-via-then-is_empty w ↦ inl (said c.is_empty.ensures w.if-is_empty.true)
  | then-is_empty-via-else-is_empty+then-is_empty-2 w ↦ inr (said w.is_empty-else-is_empty.ensures w.if-is_empty-2.true)
])

pub returns-then-not-stand_apart : goal.returns-then-not-stand_apart
returns-then-not-stand_apart c = not_apart c.is_empty.ensures c.is_empty-else-is_empty.ensures c.stand_apart.ensures c.if-is_empty.false
    c.if-is_empty-2.false c.if-not-stand_apart.true

pub returns : goal.returns
returns c = apart_found c.is_empty.ensures c.is_empty-else-is_empty.ensures c.stand_apart.ensures c.if-is_empty.false
    c.if-is_empty-2.false c.if-not-stand_apart.false c.search_roots.ensures
