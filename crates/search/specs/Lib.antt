-- The search on the table: each of its steps is the machine's.
-- ways through the code: what a state of the code's search stands for, and that each of its steps is the machine's
pub mod SearchSteps
-- ways through the code: what a step is to do, by numbers alone: whoever does it has made the machine's step
pub mod Choices
-- ways through the code: the whole search: on two trees of envelopes that face each other it ends where the machine ends, after as many steps
pub mod Runs
