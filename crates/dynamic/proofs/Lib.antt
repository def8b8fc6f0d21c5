-- Theorems that rest on what a must-fail edit turns: an edit of a definition is refused at a fact only where they stand here.
-- lemmas: a line posted: the row and the log stay right, the subtree gets at most one higher, and each level costs at most three searches
pub mod Inserted
-- lemmas: what an update keeps true of the row of subtrees in hand and of the log so far
pub mod Kept
-- lemmas: a valid tree's envelope is its lines' lower envelope, and the children of a whole subtree are whole again once it is lowered
pub mod Lower
-- lemmas: two whole subtrees, raised to one, are whole
pub mod Raise
-- lemmas: rebalancing two siblings whose heights differ by at most two: one, two or three searches, and the row and the log stay right
pub mod Rebalanced
-- lemmas: a line removed, with or without a stand-in: row and log stay right, the subtree gets at most one lower, and each level costs at most three searches
pub mod Removed
-- lemmas: a history that went wrong once, computed
pub mod Story
-- lemmas: the steps of an update each by itself, with no row around them: what rebalance, insert and remove make of whole subtrees
pub mod UpdateSteps
-- lemmas: post, withdraw and replace keep the book right: its lines, its envelopes, its balance, and what is promised of the searches
pub mod Updated
