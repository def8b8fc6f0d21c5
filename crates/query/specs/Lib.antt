-- Queries: what a walk down the pieces' tree finds, and that it is the plain book's.
-- statement and lemmas: a query on a tree of pieces: from the root to a leaf, to the load's side of each crossing; at one to the right, the piece before it kept in mind
pub mod Lookup
-- lemmas: what a tree of pieces tells is what the plain book answers
pub mod Plain
-- ways through the code: what the code reads of a part, whatever its words are: numbers are brought into the ranges that pieces keep, so that no product wraps
pub mod Readings
-- ways through the code: the four words of an inner node of the pieces' tree lie side by side: left, right, numerator, denominator
pub mod Groups
-- lemmas: a tree of pieces in words, with the thread along its leaves and the offers in their slots; and what its root's words say
pub mod QueriedPieces
-- ways through the code: a query's walk down the words of a tree of pieces is the walk down the tree
pub mod Descent
