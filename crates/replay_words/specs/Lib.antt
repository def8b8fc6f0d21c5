-- Calls and answers as words.
-- statement: a list of calls as words: four a call
pub mod Encoding
-- ways through the code: the code's reading of a call is the encoding's
pub mod Decoding
-- lemmas: what the definitions of the encoding come to
pub mod Laws
