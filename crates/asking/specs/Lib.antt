-- What is asked of a book in a lent table.
-- ways through the code: a query, step by step: what the code's parts promise, and put together
pub mod Asking
-- ways through the code: a listing's answer on a part, and on a table, by what the code counts and writes
pub mod Showing
