-- Theorems that rest on what a must-fail edit turns: an edit of a definition is refused at a fact only where they stand here.
-- ways through the code: what the answers' functions do, case by case
pub mod Answers
-- lemmas: on tables that pass the check each number, and what goes with it, is the plain book's
pub mod PlainNumbers
