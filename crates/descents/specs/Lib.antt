-- Ways down the trees of a table: a cut, a search by key, the leaf that follows a key, the first and the last leaf.
-- ways through the code: a cut, as steps on words
pub mod Cuts
-- ways through the code: a way down, from a node to one of its children until a leaf
pub mod Downs
-- ways through the code: the first and the last leaf of a tree, found by going down one side
pub mod Ends
-- ways through the code: a leaf sought by key, whatever is told of the leaf at the way's end
pub mod Seeks
-- ways through the code: a leaf found by its key
pub mod Finds
-- ways through the code: the leaf that follows a key: of those whose key is below it the first, where keys fall
pub mod Afters
-- lemmas: a cut that cuts nothing off: where one part is empty, the other is the tree that was cut
pub mod Whole
