-- The memory of a part: the ring of entries in words.
-- statement: what the code promises of the ring: its last entry, no entry, one entry more, one entry less
pub mod Ring
-- ways through the code: the ring read and written, word by word
pub mod Entries
