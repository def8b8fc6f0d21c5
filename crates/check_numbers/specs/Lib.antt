-- The free slots and the tree of numbers, as parts of the check.
-- lemmas: what the search for the tree of numbers tells
pub mod Tallies
-- ways through the code: a chain of free slots that ends after as many steps as it should: no slot comes twice, since a slot that comes twice comes for ever
pub mod FreeChains
-- lemmas: lists without repeats among others
pub mod Distinct
-- ways through the code: a slot sought by its number in a tree of numbers: it is found exactly where the tree has its item
pub mod Seeking
-- ways through the code: the tree of numbers over the live items in the slots at places 0 up to n: the ways through the code that looks for one
pub mod NumberTrees
-- ways through the code: the tree of numbers from its root in word 4: the ways through the code
pub mod Numberings
