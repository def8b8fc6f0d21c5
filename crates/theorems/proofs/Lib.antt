-- Theorems that rest on what a must-fail edit turns: an edit of a definition is refused at a fact only where they stand here.
-- lemmas: from an answer back to the `Result`: a refusal's number tells an `Err` of that number, and an accepted answer an `Ok` with all its values
pub mod AnswerCases
-- theorem: demand 2 holds of every call
pub mod AnswersExact
-- theorem: a table that passes the check stands for exactly one book
pub mod OneReading
-- lemmas: from a searched pair's envelopes to the listing's sentence about offers, which are live ones; k is capped by the live offers
pub mod SearchedOffers
-- lemmas: each stored part is the child's envelope less the parent's
pub mod StoredRests
