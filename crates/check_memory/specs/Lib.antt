-- Whether what a part remembers can be undone, as a part of the check.
-- statement: what the check of the memory tells
pub mod Recalls
-- lemmas: a flag for each number that is live, over an offer that joins or leaves; ways through the code that raises the flags
pub mod Flags
-- ways through the code: an offer taken out and one brought back, on the flags
pub mod Trying
-- ways through the code: one entry read and undone
pub mod Entries
-- ways through the code: the entries from one place of the ring back, undone one after the other
pub mod Walks
-- ways through the code: the entries that the header tells, from the live offers
pub mod Remembering
