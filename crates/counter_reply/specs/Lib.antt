-- The lines of the answers.
-- statement: what an answer prints: one line, and before it a line for each piece of a listing
pub mod Answered
-- ways through the code: what an answer's lines are written as, where each number fits its column
pub mod Replies
-- ways through the code: a listing's lines, piece after piece
pub mod PieceLines
