-- Whether a part has the form of a book.
-- ways through the code: the form of a book, put together from its tree of offers, its order, its numbers, its free slots and its memory
pub mod Audits
