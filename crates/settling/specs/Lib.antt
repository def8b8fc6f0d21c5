-- The steps by which an offer comes into a book's part or leaves it.
-- lemmas: words that agree in some fields of some slots, and what of a book such words keep: the tree of offers, the indexes, the free slots
pub mod Agree
-- lemmas: the few writes of an update outside its trees: a free slot taken and filled, a slot given back, the roots and the count set
pub mod Writing
-- ways through the code: an index by the word of the header that tells its root: an item is entered there, and an item is struck out
pub mod Indexes
-- ways through the code: what an update does to the tree of offers, which has a leaf per rate
pub mod Settling
-- lemmas: an item comes to the tree of offers
pub mod Coming
-- lemmas: an item goes from the tree of offers
pub mod Going
-- ways through the code: the offer behind one in order
pub mod Following
