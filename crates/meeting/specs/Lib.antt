-- The search for the meeting of two envelopes.
-- statement: the meeting of two envelopes: the search of docs/REQUIREMENTS.md, 6, line for line (its source [1], section 4)
pub mod Machine
-- lemmas: where the places of a search stand among the lines of their tree, counted from the outer end: a 0, a 1, .. No geometry
pub mod Located
-- lemmas: what each move of the search costs
pub mod Moves
-- lemmas: the search's comparison of two places is the comparison of their ranks that the five facts speak of
pub mod Comparisons
-- lemmas: what a comparison tells the search: the five facts, for either side, at located places
pub mod Verdicts
-- lemmas: the search finds the bridge, within 3 × (hl + hr) + 1 steps
pub mod Bridging
-- statement and lemmas: the search on two trees whose leaves are envelopes: it finishes at the bridge within 3 × (hl + hr) + 1 steps
pub mod Meets
-- lemmas: a search followed step by step, as a loop does it
pub mod Reach
-- lemmas: six searches among lines with whole rates and bases, computed
pub mod Examples
