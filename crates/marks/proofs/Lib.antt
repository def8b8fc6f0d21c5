-- Theorems that rest on what a must-fail edit turns: an edit of a definition is refused at a fact only where they stand here.
-- ways through the code: quotients of integers that are exact as doubles are at most half a unit off, and zero gives +0
pub mod QuotientLaws
