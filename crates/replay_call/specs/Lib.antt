-- One encoded call, made.
-- statement: the words of a history's answers, one stretch of words a call
pub mod Telling
-- ways through the code: one encoded call, made: what it does to the table and to the words that are lent for its answer
pub mod OneCall
-- ways through the code: how each kind of call is performed
pub mod Performing
