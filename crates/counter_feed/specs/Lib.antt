-- The input, byte by byte: lines kept and answered, and what a whole input prints.
-- statement and lemmas: the input, byte by byte: at its newline a line is answered
pub mod Input
-- lemmas: whole inputs: whatever is read from the opening on, what is printed in all is the plain counter's output
pub mod WholeInputs
-- lemmas: the sample, whole: six calls, and the bytes that the counter prints for them; the same of entries out of range
pub mod Sample
