-- Every line under a limit, from the tree of offers: only nodes that hold such a line are entered.
-- statement and lemmas: a line of the least price at a point, and that an envelope's lines fall to one and rise behind it
pub mod Least
-- statement and lemmas: from the cheapest line of a node's envelope to the cheapest of each child's
pub mod Children
-- statement and lemmas: every line that passes a test on prices; a node whose cheapest line does not pass is left alone
pub mod Below
-- statement and lemmas: how many nodes are visited for that
pub mod Visits
