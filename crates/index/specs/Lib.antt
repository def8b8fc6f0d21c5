-- An index in words: adding and dropping an item by its key; what is found by a key, and what follows one.
-- statement: what is told by a key, and what adding and dropping promise; the indexes by number and by rank
pub mod Index
-- lemmas: the tree of an index as any tree in words
pub mod Trees
-- ways through the code: an item found by its key, and the one that follows a key
pub mod Finding
-- ways through the code: a leaf added on the way to a key: the way goes right of every leaf whose key is `least` or more, and no node above changes its seam
pub mod Growing
-- ways through the code: an item added to an index: its leaf stands where its key belongs
pub mod Adding
-- ways through the code: the least key above a key, as far as keys go
pub mod Above
-- ways through the code: a leaf dropped on the way to a key: the way goes right of every leaf whose key is `least` or more
pub mod Thinning
-- ways through the code: an item dropped from an index: the way to its key ends at it
pub mod Dropping
