-- Chart marks: quotients rounded once, and how near they are.
-- lemmas: IEEE 754's rounding (lib.Ieee's `round`) of a fraction a / c is at most half a unit of its last digit off, in either format
pub mod Rounding
-- statement: a mark's numbers: integers as doubles, exactly, and quotients of them, each rounded once
pub mod Quotient
-- statement: what a chart mark tells: the number and the values of each case
pub mod MarkTold
-- statement and lemmas: the numbers of a crossing are exact as doubles: so each of its quotients is at most half a unit off
pub mod Crossings
-- lemmas: a double is m × 2 ^ e with 2 ^ 52 ≤ |m| < 2 ^ 53 in one way, so the half unit holds of every way to write it
pub mod Written
