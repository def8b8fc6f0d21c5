-- The lines of the calls: what they say.
-- statement: the lines of the calls, as lists of bytes, without their newlines
pub mod Columns
-- statement and lemmas: a call's line, taken apart: it is 27 bytes long, and its letter and its columns tell the call
pub mod CallLines
-- statement and lemmas: what `parse` answers: the command of the call whose line it was given, and none where it was given no call's
pub mod Commands
-- lemmas: the sample, line by line, and the ends of the range
pub mod Samples
