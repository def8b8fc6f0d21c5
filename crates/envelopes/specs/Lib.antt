-- Lower envelopes of pseudo-lines.
-- statement and lemmas: pseudo-lines: what the geometry of envelopes rests on, and nothing else
pub mod PseudoLines
-- lemmas: what the laws say of two or three lines at a point: prices in order, and the two sides of a crossing
pub mod Crossing
-- statement and lemmas: the lower envelope of a list of lines, and the listing
pub mod Envelope
-- lemmas: lines in order: sublists, two lists one after the other, the list turned round, and that the members decide the list
pub mod EnvelopeLaws
-- lemmas: the smallest envelopes: of no line, of one, and that some line has one that is not empty
pub mod Small
-- statement and lemmas: two envelopes that meet
pub mod Bridge
-- lemmas: pieces and bridges of lines that are the same
pub mod SameLines
