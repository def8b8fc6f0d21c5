-- Integer lines at rational loads are pseudo-lines.
-- lemmas: how far one line's price lies above another's at a rational load, times its denominator
pub mod Lead
-- statement and lemmas: lines with an integer rate and base, at rational loads: the instance of pseudo-lines that offers are
pub mod Lines
-- lemmas: offers as lines: the figure's tests are the comparisons of docs/REQUIREMENTS.md, 2.4
pub mod OfferLines
-- lemmas: changed signs
pub mod Flip
