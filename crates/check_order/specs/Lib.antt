-- The order of a part, and the tree of offers as the first of each rate, as parts of the check: yes exactly when they stand there.
-- ways through the code: ranks told by the words of slots
pub mod Ranked
-- ways through the code: the tree of the order from its root on: the ways through the code that looks for one
pub mod OrderTrees
-- ways through the code: the first slot of each rate, by one pass, and whether they are the slots of another stretch
pub mod Heads
-- lemmas: the first slots of each rate hold the first items of each rate
pub mod HeadItems
-- lemmas: the order of a part, told by words 3 and 6 of the header: how the code finds it
pub mod OrderFound
-- ways through the code: the ways through the code that looks for a part's order
pub mod OrderWays
