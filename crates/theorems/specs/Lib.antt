-- What someone who builds on the promises looks for.
-- lemmas: the words tell the tree: two trees of one kind whose roots have one number, and whose items the words hold, are one tree
pub mod Unique
-- theorem: a table that passes the check stands for exactly one book
pub mod OneReading
-- lemmas: from an answer back to the `Result`: a refusal's number tells an `Err` of that number, and an accepted answer an `Ok` with all its values
pub mod AnswerCases
-- statement: demand 2, about the calls
pub mod Demand2
-- lemmas: the sentences of demand 2 fix the answers: one price and two numbers at a load, one listing and one report, word for word; one number of probes
pub mod Fixes
-- lemmas: from a searched pair's envelopes to the listing's sentence about offers, which are live ones; k is capped by the live offers
pub mod SearchedOffers
-- lemmas: each stored part is the child's envelope less the parent's
pub mod StoredRests
