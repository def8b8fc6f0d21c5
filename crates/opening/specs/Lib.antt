-- A book opened in a lent table.
-- ways through the code: the header's words, and then each slot free and followed by the next: the part stands for a book with no offers
pub mod Laying
-- ways through the code: an empty book is laid out: the header's words, then the slots, then the memory; words past the part stay
pub mod Starting
-- ways through the code: opening, step by step: what the code's parts promise of the words lent to them, and put together
pub mod Opens
