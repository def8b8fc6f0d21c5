-- A line so far.
-- statement and lemmas: a line so far: its first 28 bytes are kept
pub mod KeptBytes
