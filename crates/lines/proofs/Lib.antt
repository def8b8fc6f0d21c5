-- Theorems that rest on what a must-fail edit turns: an edit of a definition is refused at a fact only where they stand here.
-- statement and lemmas: lines with an integer rate and base, at rational loads: the instance of pseudo-lines that offers are
pub mod Lines
-- lemmas: offers as lines: the figure's tests are the comparisons of docs/REQUIREMENTS.md, 2.4
pub mod OfferLines
