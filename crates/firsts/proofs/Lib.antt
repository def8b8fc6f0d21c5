-- Theorems that rest on what a must-fail edit turns: an edit of a definition is refused at a fact only where they stand here.
-- lemmas: a list in order, walked from the first of each class: which of its elements pass a test
pub mod Runs
