-- Theorems that rest on what a must-fail edit turns: an edit of a definition is refused at a fact only where they stand here.
-- lemmas: what stays where an update has not been: words that say the same of the fields and slots that a subtree is kept in keep the subtree
pub mod Frames
-- statement and lemmas: the form is a matter of the part's words alone: words past the part may change as they will
pub mod Local
