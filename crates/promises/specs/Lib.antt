-- What the calls on a lent table promise.
-- statement: what each call on a lent table promises
pub mod Promises
-- lemmas: no answer of the plain book is `refused 0`: every cause has a number above 0. So an answer told by a word below 0 meets no promise
pub mod Numbered
-- lemmas: one cause declines a call, and none where its trials are clear
pub mod OneCause
-- lemmas: a part that has the form is there for every call, and the trials on words of any content decide for the plain book that it stands for
pub mod Plainly
-- ways through the code: a call's part of the table: lent from `start` on, and what it comes back as
pub mod LentPart
-- lemmas: what the root's envelope is in a part that has the form: none in an empty book, and else a balanced tree of pieces
pub mod Rooted
-- ways through the code: the check, on the part of a table
pub mod Checking
-- theorem: an entry out of range is named on a table of any content, where cause 3 does not apply; examples on a part that no opening made
pub mod Entries
