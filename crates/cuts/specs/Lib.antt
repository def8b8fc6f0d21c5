-- Piece trees in words, cut by rate.
-- lemmas: what cutting a piece tree by rate promises
pub mod PieceCuts
-- lemmas: a piece tree cut by rate, as a step on words
pub mod Cutting
-- ways through the code: what the code of a cut computes with: the least rate in front, by its two tests; and the cut by it
pub mod LeastRate
-- ways through the code: a cut at an end of the tree: nothing is cut off, and nothing is written
pub mod KnownEnds
