-- Theorems that rest on what a must-fail edit turns: an edit of a definition is refused at a fact only where they stand here.
-- lemmas: a leaf added where the test turns: the leaves, the balance, and the last leaf, which stays where it fails the test
pub mod Add
-- statement and lemmas: the operations keep siblings' heights within one of each other, and a result is as high as the higher tree or one higher
pub mod Balanced
-- lemmas: the leaves of what the operations make: none is lost, doubled or moved
pub mod Leaves
-- lemmas: the mirror image of what the operations make is what their mirror images make
pub mod Mirror
-- lemmas: a cut where the test turns: the leaves in front of it and behind it, and the height and balance of both parts
pub mod Split
-- lemmas: one step of each operation under each outcome of its test: what a program that follows it meets
pub mod TreeSteps
