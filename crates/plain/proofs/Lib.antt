-- Theorems that rest on what a must-fail edit turns: an edit of a definition is refused at a fact only where they stand here.
-- statement and lemmas: which entry of a call is out of range: the number that names it, and that a call is refused with such a number exactly then
pub mod Entries
-- lemmas: the first of each rate of a list in order, of offers or of what holds an offer: which they are
pub mod FirstLaws
-- lemmas: the listing names the first of a rate exactly when at some rational load, of any size, it is strictly cheaper than every other rate's offers
pub mod ListingLaws
-- lemmas: who is live after a post and after a withdrawal
pub mod LiveAfter
-- lemmas: the plain book's query, listing and report tell what `Meaning` says, whatever calls made its offers
pub mod MeaningLaws
-- statement and theorem: after calls with take-backs among them the book holds the offers that the remaining accepted calls leave
pub mod Remaining
-- lemmas: the plain book's calls, one by one: which trial declines, and what an accepted call answers and leaves
pub mod Rules
-- lemmas: what holds of the plain book after every list of calls
pub mod Sound
-- lemmas: what undoes an update gives back the offers that it found, and all that a book remembers can be undone, after every list of calls
pub mod Undoing
