-- The dynamic envelope: the tree of offers with its stored parts, post, withdraw and replace as functions on trees.
-- statement: where a search of two trees ends, and what it tells of the envelope of both sets of lines
pub mod SearchEnd
-- lemmas: two trees whose leaves are envelopes that face each other (`Bridged`, in SearchEnd)
pub mod Bridged
-- lemmas: a valid tree's envelope is its lines' lower envelope, and the children of a whole subtree are whole again once it is lowered
pub mod Lower
-- statement and lemmas: the whole envelope in hand and the parts stored below it hold each line once: together they are a rearrangement of the tree's leaves
pub mod Rearranged
-- lemmas: every tree of a whole subtree is balanced, so at most 2 × B(n) high over its n leaves, and over all the subtree's lines
pub mod Heights
-- statement and lemmas: the tree of offers: leaves are lines in order; a fork keeps for each child the part of its envelope that is not on the fork's
pub mod OfferTree
-- lemmas: post, withdraw and replace on the tree of offers: lower on the way down, rebalance on the way up
pub mod Updates
-- statement and lemmas: when a tree of offers is right: every stored part is the rest of its node's lower envelope, and the whole in hand is the root's
pub mod Valid
-- statement: what an update's log of searched pairs is held to: k, s and H are its length, its steps and its heights
pub mod Work
-- lemmas: the floor under an update: it stays when an inner node goes, and when one is made together with a pair of its own
pub mod Floors
-- lemmas: a row of subtrees in hand, from left to right
pub mod Forests
-- lemmas: what an update keeps true of the row of subtrees in hand and of the log so far
pub mod Kept
-- lemmas: rebalancing two siblings whose heights differ by at most two: one, two or three searches, and the row and the log stay right
pub mod Rebalanced
-- lemmas: a line placed into a list in order, taken out, or put in the place of another: in which part that happens, who is there, and that the order stays
pub mod Placed
-- lemmas: a line posted: the row and the log stay right, the subtree gets at most one higher, and each level costs at most three searches
pub mod Inserted
-- lemmas: a line removed, with or without a stand-in: row and log stay right, the subtree gets at most one lower, and each level costs at most three searches
pub mod Removed
-- lemmas: the steps of an update each by itself, with no row around them: what rebalance, insert and remove make of whole subtrees
pub mod UpdateSteps
