-- Every history of calls.
-- statement: a list of calls on one table, and the claim about it
pub mod History
-- theorem: the proof of the claim about a history (`Claim`, in History)
pub mod Claim
-- statement and theorem: the part stands for the offers that the remaining accepted calls leave
pub mod Remains
-- lemmas: k's floor as a number
pub mod Searches
