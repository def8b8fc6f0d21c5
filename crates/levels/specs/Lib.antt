-- One level of the tree of offers in words.
-- lemmas: what taking one level apart and putting it together promise
pub mod Levels
-- ways through the code: lower in words: cut the whole envelope behind the left child's last line, then give each child its rest back
pub mod Lowering
-- lemmas: what raising two subtrees makes, said by cuts by rate as code makes them
pub mod RaisingModel
-- ways through the code: the bridges and rests that a subtree's words tell, field by field
pub mod RaisingRests
-- lemmas: raise in words, first part: both children's whole envelopes are cut
pub mod RaisingCuts
-- lemmas: raise in words, second part: the two rests, the node above both children and its bridge are written
pub mod RaisingWires
-- lemmas: raise in words, third part: the kept parts of both envelopes are put together, and the words hold the fork with its whole envelope
pub mod RaisingCat
-- ways through the code: raise in words: both envelopes are searched and cut, the rests, the node and its bridge are written, and the kept parts put together
pub mod Raising
-- ways through the code: what the search on the table promises is what raising asks of it
pub mod RaisingSearch
-- ways through the code: what the code of lowering and raising hands to their lemmas: the capacity that stays known, and a rest by its node
pub mod CodeLevels
