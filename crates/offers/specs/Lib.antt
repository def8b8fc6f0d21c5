-- Offers, loads and prices, as docs/REQUIREMENTS.md has them (2).
-- statement: offers and loads
pub mod Offers
-- lemmas: the order of offers as a statement
pub mod Order
-- lemmas: what the code computes from offers and loads in range, and that each value fits an i64. For each expression two facts
pub mod Sizes
-- statement: the rank of an offer in one word, which falls along the order; lemmas: that it does, and that it fits an i64
pub mod Ranks
-- ways through the code: a number brought into a range, so that no product wraps: itself where it is in the range, and 0 for any other
pub mod Bounded
