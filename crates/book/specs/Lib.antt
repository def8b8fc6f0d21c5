-- The book in a lent table.
-- lemmas: what a call's code has done, put together into what the call promises on a part that stands for a plain book
pub mod Following
-- ways through the code: a post, a withdrawal and a take-back on a lent table: what the code's guards and its work on the part promise, put together
pub mod TableUpdates
