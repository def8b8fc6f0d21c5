-- What a comparison of two envelopes reads; where a point lies against a line, for it and for a query.
-- ways through the code: where a point lies against a line: below it, on it or above it; one comparison for the query and the search
pub mod Positions
-- ways through the code: what the search reads of a slot, whatever the words are: a rate, a base, a numerator or a denominator out of range reads 0
pub mod Prices
