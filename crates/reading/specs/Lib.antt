-- A reading of a book's pieces.
-- statement: a reading of a book's pieces: what it hands out at its n-th step, and what moves it on
pub mod Promises
-- lemmas: what a reading hands out, piece by piece: each piece with its crossing with the next, and from the last on the end
pub mod ListedLaws
-- ways through the code: a reading of a part, by what the code reads of its words
pub mod PartReading
