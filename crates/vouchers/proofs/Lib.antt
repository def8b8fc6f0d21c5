-- Theorems that rest on what a must-fail edit turns: an edit of a definition is refused at a fact only where they stand here.
-- lemmas: what the voucher rule comes to
pub mod RuleLaws
-- lemmas, and ways through the code: what is due for a price in its span, and outside it
pub mod Span
