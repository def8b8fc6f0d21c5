-- What the operations on the trees of a table promise, and the steps of their proofs on trees and words alone.
-- lemmas: the trees' operations seen from a side, so that each serves its mirror image
pub mod Sides
-- ways through the code: steps that follow one another: what one leaves is what the next finds
pub mod Rows
-- ways through the code: rotations, as steps on words: each lemma is one way through the code
pub mod Rotations
-- ways through the code: balance, as steps on words: the two heights tell which rotation it is, or none
pub mod Balance
-- ways through the code: join, as steps on words: down the inner spine of the higher tree, and balance on the way back
pub mod Splices
-- ways through the code: join of two trees, either of which may be empty, as steps on words
pub mod JoinSteps
