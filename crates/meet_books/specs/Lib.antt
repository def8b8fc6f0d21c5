-- The meeting of two books.
-- statement: what the meeting of two books promises
pub mod Promises
-- ways through the code: two books whose rates stand apart: of offers by falling rate the last of the first book and the first of the second decide for all
pub mod Apart
-- ways through the code: the meeting on two parts: the search from their roots, and put together with the trials
pub mod Searching
-- ways through the code: the meeting on two tables: cause 3, and then the two parts
pub mod Tables
