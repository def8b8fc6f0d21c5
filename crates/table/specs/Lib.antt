-- The table: words, the places of the slots' fields, and trees kept in words.
-- statement: the words of a part by name: the header's words, the fields of a slot, the trees, and the limits
pub mod Fields
-- statement and lemmas: the words of a lent part, and one of them read or written
pub mod Words
-- statement and lemmas: where a part keeps what
pub mod Layout
-- ways through the code: a slot's field read straight from the words, where the part's capacity c is known
pub mod Cells
-- statement and lemmas: an item: an offer and the slot that keeps it
pub mod Items
-- statement and lemmas: trees kept in words
pub mod Rep
-- lemmas: what a node's words say of the tree that it is the root of, and what the words of a new node make of two trees side by side
pub mod Nodes
-- statement and lemmas: items whose slots hold their offers, and items threaded one to the next
pub mod Threads
-- statement and lemmas: trees that may be empty, kept in words: node number 0 is the empty one
pub mod PartTrees
-- lemmas: a field of slots as the key of items: what a cut and a search by key ask of the words
pub mod Keys
-- statement and lemmas: the free slots: a chain from `firstFreeWord` on, each slot with 0 in `numberField` and the next one in `nextFreeField`
pub mod Free
