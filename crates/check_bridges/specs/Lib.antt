-- Crossings of the lines in slots: threads and bridges.
-- ways through the code: crossings of the lines that slots hold, compared by exact products
pub mod Gaps
-- ways through the code: the tests of a bridge between two stretches of slots, by the neighbours of its two ends
pub mod StoredBridges
