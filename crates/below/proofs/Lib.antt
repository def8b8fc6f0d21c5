-- Theorems that rest on what a must-fail edit turns: an edit of a definition is refused at a fact only where they stand here.
-- statement and lemmas: every line that passes a test on prices; a node whose cheapest line does not pass is left alone
pub mod Below
-- statement and lemmas: from the cheapest line of a node's envelope to the cheapest of each child's
pub mod Children
-- statement and lemmas: how many nodes are visited for that
pub mod Visits
