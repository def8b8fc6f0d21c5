-- A report of every offer under a price.
-- ways through the code: how many offers of a part are under the price, and their words, by what was gathered, spread and written
pub mod Counting
-- ways through the code: a report's answer on a part, and on a table
pub mod Telling
