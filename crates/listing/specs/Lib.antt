-- Listings: what a walk along the pieces counts and writes, and that it is the plain book's.
-- statement and lemmas: along the thread, from the first piece to the last, every piece is passed one time
pub mod PieceCounts
-- ways through the code: a listing's words, written piece by piece along the thread, are the plain listing's
pub mod Listing
