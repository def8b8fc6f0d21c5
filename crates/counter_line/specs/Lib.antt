-- The counter: lines of text answered on a book.
-- statement: the counter: what a line prints, and what it does to the plain book
pub mod Promises
-- lemmas: every number that the plain book answers fits its column
pub mod Fitting
-- ways through the code: what a line's answer does, command by command: the call's promise, and the lines of its answer
pub mod Answering
