-- Balanced trees whose leaves carry the items.
-- statement and lemmas: leaf-oriented trees: the items stand at the leaves, from left to right
pub mod Tree
-- statement and lemmas: the operations on trees, step for step as a program makes them: a test on heights is a Bool, and each function recurs on one tree
pub mod Operations
-- lemmas: a choice by the heights of two trees, in proofs
pub mod ByHeights
-- lemmas: the leaves of what the operations make: none is lost, doubled or moved
pub mod Leaves
-- lemmas: the mirror image of what the operations make is what their mirror images make
pub mod Mirror
-- lemmas: one step of each operation under each outcome of its test: what a program that follows it meets
pub mod TreeSteps
-- statement and lemmas: the operations keep siblings' heights within one of each other, and a result is as high as the higher tree or one higher
pub mod Balanced
-- statement and lemmas: lists in order: keys that fall strictly, and tests that pass first and then no more
pub mod Order
-- lemmas: a cut where the test turns: the leaves in front of it and behind it, and the height and balance of both parts
pub mod Split
-- lemmas: find by key: what is found is a leaf with that key, and where keys fall strictly every leaf is found by its own
pub mod Find
-- lemmas: every second level of a balanced tree doubles its leaves, so a tree of n leaves is at most 2 × B(n) high
pub mod Height
