-- Theorems that rest on what a must-fail edit turns: an edit of a definition is refused at a fact only where they stand here.
-- ways through the code: a part's mark, by what the code reads: the count of its pieces, and the slot of one of them
pub mod Marking
-- lemmas: the numbers of a sound book's marks are exact as doubles
pub mod Rounded
