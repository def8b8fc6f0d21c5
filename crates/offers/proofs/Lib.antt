-- Theorems that rest on what a must-fail edit turns: an edit of a definition is refused at a fact only where they stand here.
-- statement: the rank of an offer in one word, which falls along the order; lemmas: that it does, and that it fits an i64
pub mod Ranks
-- lemmas: what the code computes from offers and loads in range, and that each value fits an i64. For each expression two facts
pub mod Sizes
