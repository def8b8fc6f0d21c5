-- The answers of the calls for Rust and C.
-- statement: what each function for Rust and C promises
pub mod Promises
-- lemmas: on tables that pass the check each number, and what goes with it, is the plain book's
pub mod PlainNumbers
