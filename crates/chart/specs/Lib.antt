-- Chart marks of a book.
-- statement: a book's chart marks, and what asking for one promises
pub mod Promises
-- lemmas: how many marks a listing has, and the marks of one, written out
pub mod MarkCounts
-- ways through the code: along the thread to a piece, told by its place
pub mod ChartWalks
-- ways through the code: a part's mark, by what the code reads: the count of its pieces, and the slot of one of them
pub mod Marking
