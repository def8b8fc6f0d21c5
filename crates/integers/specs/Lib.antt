-- Integers: order, ring and size reasoning.
-- statement and lemmas: two integers are one, as a test that computes
pub mod Equal
-- ways through the code: linear reasoning on ℤ
pub mod Parts
-- lemmas: sums, differences and products of integers
pub mod Ring
-- ways through the code: how large an integer expression gets
pub mod Magnitude
-- lemmas: range tests as code makes them: too low, too high, and otherwise in range
pub mod Ranges
-- statement and lemmas: B(n), the least whole j with 2^j ≥ n
pub mod Log
