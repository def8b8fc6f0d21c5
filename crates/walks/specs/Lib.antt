-- One walk of a search: what it stands for, and what a step does with it.
-- statement and lemmas: items as lines: the figure of the offers that they carry, and its tests as the code computes them
pub mod ItemLines
-- lemmas: a tree of pieces kept in a table, its lines threaded and in order; and what the code's comparison says of two such trees
pub mod SearchedPieces
-- lemmas: what one walk of the code stands for: a half of the machine's state
pub mod Walks
-- ways through the code: what the code's functions on a walk are held to, and why each of their answers is right
pub mod CodeMoves
-- ways through the code: what an action makes of a walk whose node was noted above its stack's top
pub mod Actions
