-- The scan's arithmetic.
-- ways through the code: what the scan computes from values in range fits an i64
pub mod Clamps
