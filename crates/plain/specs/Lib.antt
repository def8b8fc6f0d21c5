-- The plain book: what every history of calls is compared with.
-- statement: when a call is declined
pub mod Causes
-- lemmas: what a list of trials decides: no cause exactly when none applies, and a cause exactly when it is the first that applies
pub mod Trials
-- statement: the plain book: a capacity, a list of live offers in order and a memory, fed the calls' arguments, an output's length with them
pub mod Book
-- statement: what a query, a listing and a report tell of a list of live offers, in the words of docs/REQUIREMENTS.md (3) and with no way of computing it
pub mod Meaning
-- lemmas: prices to prove, and other cases: each through the calls of a freshly opened book, the ten as one table that the checker computes
pub mod Cases
-- lemmas: what holds of the plain book after every list of calls
pub mod Sound
-- lemmas: what undoes an update gives back the offers that it found, and all that a book remembers can be undone, after every list of calls
pub mod Undoing
-- lemmas: the first of each rate of a list in order, of offers or of what holds an offer: which they are
pub mod FirstLaws
-- lemmas: the plain book's calls, one by one: which trial declines, and what an accepted call answers and leaves
pub mod Rules
-- statement and lemmas: which entry of a call is out of range: the number that names it, and that a call is refused with such a number exactly then
pub mod Entries
-- lemmas: a query's price is the least over all live offers; of those at that price it names the lowest rate first and the highest second
pub mod QueryLaws
-- statement and theorem: after calls with take-backs among them the book holds the offers that the remaining accepted calls leave
pub mod Remaining
