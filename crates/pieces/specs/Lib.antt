-- Piece trees in words: envelopes with their crossings, put together.
-- statement and lemmas: a piece tree in words: the nodes of a tree, and along its leaves the thread with the crossings
pub mod Pieces
