-- `book::post` meets its contract: by its guards, and then what a post does to the part.
use mathlib.Core.Path.{refl, ap, ◌∙◌}
use Rattle.std.specs.Prelude.{Err}
use Rattle.std.proofs.lemmas.Result.{err_from_is_err_and}
use mir.Facts.{to_z-of_z}
use Rattle.book.specs.TableUpdates.{updates_none, updates_range, post_refused, post_accepted}
use Rattle.book.proofs.post.Goals as goal

pub returns-then-no_book : goal.returns-then-no_book
returns-then-no_book c = updates_none _ _ _ _ c.no_book.ensures c.if-no_book.true refl

pub returns-in_err-range_cause : goal.returns-in_err-range_cause
returns-in_err-range_cause c = let f = c.ranges in
    let (d, e, same) = err_from_is_err_and _ c.from_residual.ensures.1 in
    updates_range _ _ _ _ c.no_book.ensures c.if-no_book.false (simp (to_z-of_z, f.number, f.rate, f.base) at c.range_cause.ensures)
    c.in_err-range_cause.was (e ∙ ap Err same) refl

pub returns-in_err-post_cause : goal.returns-in_err-post_cause
returns-in_err-post_cause c = let f = c.ranges in
    let (d, e, same) = err_from_is_err_and _ c.from_residual-in_err-post_cause.ensures.1 in
    post_refused _ _ _ c.no_book.ensures c.if-no_book.false _ _ _
    (simp (to_z-of_z, f.number, f.rate, f.base) at c.range_cause.ensures) c.in_ok-range_cause.was
    (simp (to_z-of_z, f.number) at c.post_cause.ensures) c.in_err-post_cause.was (e ∙ ap Err same) refl

pub returns : goal.returns
returns c = let f = c.ranges in
    post_accepted _ _ _ c.no_book.ensures c.if-no_book.false _ _ _
    (simp (to_z-of_z, f.number, f.rate, f.base) at c.range_cause.ensures) c.in_ok-range_cause.was
    (simp (to_z-of_z, f.number) at c.post_cause.ensures) c.in_ok-post_cause.was _
    (simp (to_z-of_z, f.number, f.rate, f.base) at c.post_kept.ensures) refl
