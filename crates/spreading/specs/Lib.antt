-- The offers of a part that are below a price.
-- lemmas: the leaf behind another one in a tree, by the inner node between them
pub mod Neighbours
-- ways through the code: the offer behind one in order, where it has the same rate and is below
pub mod Nexts
-- ways through the code: the slots of all offers below, put rate by rate
pub mod Spreads
-- ways through the code: the words of the offers in a list of slots, written one behind the other
pub mod Writes
-- lemmas: what is put and written is the plain book's report
pub mod Laid
