-- Theorems that rest on what a must-fail edit turns: an edit of a definition is refused at a fact only where they stand here.
-- theorem: the proof of the claim about a history (`Claim`, in History)
pub mod Claim
-- statement and theorem: the part stands for the offers that the remaining accepted calls leave
pub mod Remains
