-- Theorems that rest on what a must-fail edit turns: an edit of a definition is refused at a fact only where they stand here.
-- statement and lemmas: the free slots: a chain from `firstFreeWord` on, each slot with 0 in `numberField` and the next one in `nextFreeField`
pub mod Free
-- statement and lemmas: where a part keeps what
pub mod LayoutLaws
-- lemmas: what a node's words say of the tree that it is the root of, and what the words of a new node make of two trees side by side
pub mod Nodes
-- statement and lemmas: trees kept in words
pub mod Rep
-- statement and lemmas: items whose slots hold their offers, and items threaded one to the next
pub mod Threads
