-- The updates of a part with its memory.
-- ways through the code: the ranges of an offer's entries, as the code tests them
pub mod Ranges
-- statement: what an update that is remembered promises of a part, and a take-back
pub mod Recording
-- lemmas: a part put together again from its offers and its memory
pub mod Recorded
-- ways through the code: an update remembered, and the last one undone
pub mod Undoing
