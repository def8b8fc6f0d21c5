-- No answer of the plain book is `refused 0`: every cause has a number above 0. So an answer told by a word below 0 meets no promise.
use Rattle.std.specs.Prelude.{◌≢◌, ◌≤◌}
use Rattle.std.proofs.Common.{⊎_elim, arith}
use Rattle.plain.specs.Causes.{Cause, cause_number, capacity_out_of_range, table_too_short, no_book, number_out_of_range, rate_out_of_range}
use Rattle.plain.specs.Causes.{base_out_of_range, load_out_of_range, price_out_of_range, number_live, book_full, number_not_live, book_empty}
use Rattle.plain.specs.Causes.{output_too_short, unreadable_line, rates_not_apart, no_such_mark, nothing_to_take_back}
use Rattle.plain.specs.Book.{State, Call, refused, step}
use Rattle.plain.specs.Entries.{names_first}
use Rattle.plain.proofs.Entries.{refused_names}

pub from_one : (c : Cause) → 1 ≤ cause_number c
from_one capacity_out_of_range = omega arith
from_one table_too_short = omega arith
from_one no_book = omega arith
from_one number_out_of_range = omega arith
from_one rate_out_of_range = omega arith
from_one base_out_of_range = omega arith
from_one load_out_of_range = omega arith
from_one price_out_of_range = omega arith
from_one number_live = omega arith
from_one book_full = omega arith
from_one number_not_live = omega arith
from_one book_empty = omega arith
from_one output_too_short = omega arith
from_one unreadable_line = omega arith
from_one rates_not_apart = omega arith
from_one no_such_mark = omega arith
from_one nothing_to_take_back = omega arith

pub numbered : (s : State) (k : Call) → (step s k).answer ≢ refused 0
numbered s k e =
    ⊎_elim (λ o. omega (arith, o.0)) (λ n. let (z, f, p) = names_first n in omega (arith, p, from_one z)) (refused_names s k 0 e)
