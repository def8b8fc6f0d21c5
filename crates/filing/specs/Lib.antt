-- A book's part as its calls change it.
-- lemmas: the counts of an update are exact: no log of a book comes near 2 ^ 32 searches, steps or heights
pub mod Counts
-- lemmas: an update on a part that stands for a plain book: what it begins with, and a book put together again from what it leaves
pub mod Updating
-- lemmas: a post on a part that stands for a plain book
pub mod Posting
-- lemmas: a withdrawal on a part that stands for a plain book: the code's steps leave a part that stands for the plain book after the withdrawal
pub mod Withdrawing
-- ways through the code: a post and a withdrawal on the words lent from a book's start on: what the code's parts promise of them, and put together
pub mod PartUpdates
