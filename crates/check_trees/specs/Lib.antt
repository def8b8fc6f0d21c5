-- Trees of a part, read into a scratch array and compared with what stands there.
-- ways through the code: the scratch array's length, and where its second half begins
pub mod Scratch
-- ways through the code: answers that decide a statement, and statements of every place of a stretch
pub mod Deciding
-- lemmas: stretches of a scratch array: the numbers from one place up to another
pub mod Stretches
-- lemmas: a balanced tree laid out in words: each leaf is the item that its slot holds
pub mod Laid
-- ways through the code: what is looked for along a stretch of the scratch array, and a stretch moved down
pub mod Loops
-- lemmas: what holds at each place of a stretch holds of each item that stands there, and back: offers in range, and keys that fall
pub mod Along
-- ways through the code: a tree's leaves written into a scratch array, in order: what the walk promises, and the ways through its code
pub mod Fills
-- ways through the code: the walk over a tree that writes its leaves' slots into a scratch array: the ways through its code
pub mod FillWalks
