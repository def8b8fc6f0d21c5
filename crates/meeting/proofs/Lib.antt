-- Theorems that rest on what a must-fail edit turns: an edit of a definition is refused at a fact only where they stand here.
-- lemmas: the search finds the bridge, within 3 × (hl + hr) + 1 steps
pub mod Bridging
-- lemmas: the search's comparison of two places is the comparison of their ranks that the five facts speak of
pub mod Comparisons
-- statement and lemmas: the search on two trees whose leaves are envelopes: it finishes at the bridge within 3 × (hl + hr) + 1 steps
pub mod Meets
-- lemmas: what each move of the search costs
pub mod Moves
-- lemmas: a search followed step by step, as a loop does it
pub mod Reach
-- lemmas: what a comparison tells the search: the five facts, for either side, at located places
pub mod Verdicts
