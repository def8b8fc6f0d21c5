-- Two envelopes merged at a stored bridge, as part of the check.
-- ways through the code: a piece tree over a stretch of slots: the ways through the code that looks for one
pub mod PieceTrees
-- ways through the code: what stays with a node of the offers, compared with the word itself: a word outside the range of node numbers is read as 0 too
pub mod Rests
-- lemmas: the four tests of a bridge say that the envelope of both sides is made of the left pieces up to u and the right ones from v
pub mod BridgeTests
-- lemmas: a subtree of offers whose shape, offers and order are known, and the envelopes that may be stored with it
pub mod Stands
-- lemmas: the words of a node that join the pieces of its two children, and the same told of the tree of offers
pub mod Joints
-- ways through the code: the merge of two stretches at a node: what it promises, and the ways through its code
pub mod Merges
