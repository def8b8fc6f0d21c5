-- Numbers as texts in columns, and the lines of the answers.
-- statement: the texts of the counter program's columns, as lists of bytes: numbers, columns, an answer's line
pub mod Texts
-- statement and lemmas: what a number's decimal text is made of, and how long it is
pub mod Decimals
-- lemmas: texts in columns: how wide they are, and a text of two parts
pub mod Justified
-- statement and lemmas: sections of a list, as code cuts them out, and a list put together from them
pub mod Sections
-- statement and lemmas: the powers of ten that printing subtracts, and the rule of their table
pub mod Powers
-- statement and lemmas: what is promised of printing, whatever the way
pub mod Printed
-- ways through the code: a number's digits from the highest place down
pub mod Places
-- ways through the code: how a number is printed: spaces and the minus before its digits
pub mod Printing
