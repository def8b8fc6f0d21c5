-- One node over two trees of the table.
-- ways through the code: two trees side by side made into one
pub mod Joining
