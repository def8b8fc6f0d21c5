-- Theorems that rest on what a must-fail edit turns: an edit of a definition is refused at a fact only where they stand here.
-- ways through the code: two piece trees put together, as steps on words: the seam is threaded, then the trees are joined
pub mod Catting
