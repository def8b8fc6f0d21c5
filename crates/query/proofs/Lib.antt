-- Theorems that rest on what a must-fail edit turns: an edit of a definition is refused at a fact only where they stand here.
-- lemmas: of the cheapest of all lines the item named first is the last in order, and the second one the first
pub mod Answer
-- ways through the code: a query's walk down the words of a tree of pieces is the walk down the tree
pub mod Descent
-- lemmas: what a tree of pieces tells is what the plain book answers
pub mod Plain
