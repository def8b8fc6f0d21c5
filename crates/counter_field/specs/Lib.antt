-- A number in some columns of a line.
-- statement and lemmas: the number that a text tells: what its digits say, and negative where it has a minus
pub mod Values
-- ways through the code: what the reading functions answer
pub mod Reading
