-- The offers of a part with their envelopes, as parts of the check of a book's part: yes exactly when they stand there.
-- ways through the code: the walk over the tree of offers, by a function that calls itself on both children: what it promises, and the ways through its code
pub mod OfferWalks
-- ways through the code: the words of the header that tell of the tree of offers: its root, and that of the whole envelope
pub mod Headers
-- ways through the code: a tree of offers whose shape, offers and order are right: how the code finds one
pub mod Orders
-- ways through the code: the envelopes stored with a tree of offers, and the root of the whole one's pieces: how the code finds them
pub mod Envelops
-- lemmas: the tree of offers of a part, told by words 1 and 2 of the header: how the code finds it
pub mod OffersFound
-- lemmas: a right header, and a tree of offers with its envelopes where it says: that is a part's tree of offers
pub mod OffersSound
-- lemmas: a part's tree of offers is where its header says, in shape and order, with its envelopes
pub mod OffersComplete
-- ways through the code: the ways through the code that looks for a part's tree of offers
pub mod OfferWays
