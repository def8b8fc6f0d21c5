-- Theorems that rest on what a must-fail edit turns: an edit of a definition is refused at a fact only where they stand here.
-- lemmas: two envelopes that face each other, and their bridge: the mirror image, and what both lines are at the crossing
pub mod Bridges
-- lemmas: lines that carry more than a line, such as the slot where they are kept: the envelope does not ask what they carry
pub mod Carried
-- lemmas: chains: crossings of neighbours in order say which line is the lowest at a point
pub mod Chains
-- lemmas: two envelopes that face each other have a bridge, and one only
pub mod Exists
-- lemmas: the listing is exact: a line is listed if and only if at some point it is strictly below every other
pub mod Listed
-- lemmas: the merge of two envelopes: the left lines up to u and the right lines from v are the envelope of both exactly if (u, v) is the bridge
pub mod Merge
-- lemmas: the answer to a query, and that the lines decide their lower envelope
pub mod Query
-- lemmas: a withdrawn line leaves no trace: the envelope after any history is that of the lines that remain
pub mod Restrict
-- lemmas: the five facts that the search for a bridge rests on
pub mod Search
