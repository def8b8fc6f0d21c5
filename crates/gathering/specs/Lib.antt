-- The leaves of the tree of offers that are below a price at a load, gathered from a part's words.
-- statement and lemmas: the price as a limit, and a query's descent as a search for the cheapest
pub mod Limits
-- statement and lemmas: a subtree of offers in words, with the envelope that it has but that no words hold whole
pub mod Nodes
-- ways through the code: the cheapest of a node's children, in words
pub mod Cheapest
-- statement and ways through the code: what the walk promises
pub mod Gathers
-- lemmas: what is gathered from the root of a book's tree of offers
pub mod Gathered
