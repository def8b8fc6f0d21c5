-- Voucher prices, as docs/REQUIREMENTS.md has them (11): the rule, what it comes to, and what the call tells and promises.
-- statement: the voucher rule: a price in whole units of 100 cents, at most 50 cents off, and even where it is 50 off
pub mod Rule
-- lemmas: what the voucher rule comes to
pub mod RuleLaws
-- statement: what a voucher call tells: the requirements' number and values (11, 16.5) for each case of its answer, and what it promises
pub mod VoucherTold
-- lemmas, and ways through the code: what is due for a price in its span, and outside it
pub mod Span
-- ways through the code: the code's steps to a voucher: the division leaves a rest, and enough of a rest leads one unit further out
pub mod VoucherSteps
