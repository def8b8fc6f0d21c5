-- The tree of offers in words.
-- lemmas: what the steps of an update above one level promise
pub mod Steps
-- lemmas: two subtrees side by side, seen from a side, and what raising them or lowering one leaves
pub mod Neighbours
-- lemmas: counts of one operation after another
pub mod Counting
-- ways through the code: a rotation in words: its calls in a row make what the model's rotation makes, on either side
pub mod Rotating
-- lemmas: rebalancing two siblings in words: by their heights, one raise, or a rotation on the side of the taller one
pub mod Rebalancing
-- lemmas: one level of an insertion in the model, seen from the side that the line goes to
pub mod InsertingModel
-- ways through the code: one level of an insertion in words, given the promise of the call on the child
pub mod Inserting
-- lemmas: one level of a removal in the model, seen from the side where the line stands
pub mod RemovingModel
-- ways through the code: one level of a removal in words, given the promise of the call on the child
pub mod Removing
-- ways through the code: what the code of rebalancing, and of lowering and raising from a side, hands to its lemmas: a side as a test, and heights as read
pub mod CodeSteps
-- ways through the code: what the code of inserting and removing hands to their lemmas
pub mod CodeUpdates
