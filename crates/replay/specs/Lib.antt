-- Encoded calls, run one after the other: what a whole run does.
-- lemmas: the answers read off the words are the history's, where none of those is `refused 0`, as no answer of the plain book is
pub mod Right
-- statement: what a run of encoded calls promises
pub mod Promises
-- ways through the code: a run under way: what is done so far makes, with whatever is made of the calls that are left, the whole
pub mod Running
-- ways through the code: a run that has ended keeps its promise, and so does one from an opening on
pub mod Resumed
