-- What a book's words mean.
-- statement and lemmas: the tree of offers in words
pub mod Stored
-- statement: the memory of a part: a ring of entries that undo the last updates
pub mod Memory
-- statement: the form of a book's part, and the plain book that it stands for
pub mod Form
-- ways through the code: the roots that a part's words tell, whatever the words are
pub mod Roots
-- ways through the code: what stays with a node, as it is read: the word that tells it, and the root that is read off that word
pub mod RestWords
-- lemmas: what stays where an update has not been: words that say the same of the fields and slots that a subtree is kept in keep the subtree
pub mod Frames
-- lemmas: lists of items that share no slot, put together
pub mod Disjoint
-- lemmas: where there is a slot, the first word is the capacity, and the words are enough for it
pub mod There
-- lemmas: the words of a memory tell its entries
pub mod Rings
-- statement and lemmas: the form is a matter of the part's words alone: words past the part may change as they will
pub mod Local
-- lemmas: what a part's form says of the leaves of its tree of offers and of its live items; and the plain book that it stands for is sound
pub mod Live
-- lemmas: the header's words of a book, read as numbers: the live count and the four roots
pub mod HeaderWords
